-- Descents, the field's word for steps that make a window shorter (section X of the specification).
use Rattle.std.specs.Prelude.{Bool, List, ℕ, ltb, ℤ}
use Rattle.coxeter.specs.declared.Kind.{Kind}
use Rattle.coxeter.specs.Windows.{act}
use Rattle.coxeter.specs.Length.{window_length}

-- X2: step s is a descent of the window w: added at the end it makes the length smaller
unfoldable pub is_descent : Kind → ℕ → ℕ → List ℤ → Bool
is_descent k n s w = ltb (window_length k (act k n s w)) (window_length k w)
