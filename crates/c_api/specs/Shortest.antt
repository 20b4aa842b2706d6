-- What the call for C on fallbacks returns and writes, from what the layer's call does (IC4 and I18 of the
-- specification).
use Rattle.std.specs.Prelude.{◌≡◌, List, ℕ, ℤ, pos}
use Rattle.shortest_words.specs.answers.Fallback.{Fallback}
use Rattle.shortest_words.specs.answers.Fallback as fallback
use Rattle.shortest_words.specs.Calls.{fallback_answer, FellBack}
use Rattle.c_api.specs.Calls.{refused}

-- IC4, I18: the number of places kept; −101 is no
unfoldable pub fallback_number : Fallback → ℤ
fallback_number (fallback.Kept l) = pos l
fallback_number fallback.No = refused 101
fallback_number (fallback.Refused k) = refused k

-- I18, G2: the number that was answered, and what holds of the list of places afterwards
abbrev pub FallbackNumbered : ℕ → ℕ → List ℕ → List ℕ → List ℕ → ℤ → List ℕ → Type 0
FallbackNumbered k n present simpler places z after =
    (z ≡ fallback_number (fallback_answer k n present simpler places))
    × FellBack k n present simpler places (fallback_answer k n present simpler places) after
