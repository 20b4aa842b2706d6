-- `presets::put_preset` puts the line of what reading the preset returned. A preset that was found passed its checks,
-- and its letters lie in the book.
-- Assumes nothing.
use mathlib.Core.Path.{sym, ap, ◌∙◌}
use native.Mathlib.Omega.{arith}
use Rattle.coxeter.specs.Kinds.{kind_number}
use Rattle.book_format.specs.answers.Preset.{as_preset}
use Rattle.book_format.proofs.PresetLaws.{PresetFound, found, found_word, found_inside, found_small}
use Rattle.listing_lines.proofs.presets.PresetLines.{line_by-found, line_by-refused}
use Rattle.listing_lines.proofs.presets.put_preset.Goals as goal
use Rattle.listing_lines.proofs.presets.put_preset.Goals.{In-Ok}

-- the preset that was found
preset : (c : In-Ok) → let p = c.in-Ok.preset in PresetFound c.requires.0 c.args.book.now c.args.number (kind_number p.group.kind) p.group.rank p.start p.length
preset c = found (ap as_preset (sym c.in-Ok.is) ∙ c.requires.1.0)

pub overflow_add-letters : goal.overflow_add-letters
overflow_add-letters c = record { fits = omega (arith, found_small (preset (goal.at.overflow_add-letters c).In-Ok)) }

pub slice_bounds-letters-end : goal.slice_bounds-letters-end
slice_bounds-letters-end c = found_inside (preset (goal.at.slice_bounds-letters-end c).In-Ok)

pub invariant_of-put_word : goal.invariant_of-put_word
invariant_of-put_word c = record { accepted = found_word (preset (goal.at.invariant_of-put_word c).In-Ok) }

pub put_word-requires : goal.put_word-requires
put_word-requires c = rw (line_by-found c.args.book.now c.args.number _ c.in-Ok.is) c.requires.1.1

pub put_refused-requires : goal.put_refused-requires
put_refused-requires c = rw (line_by-refused c.args.book.now c.args.number _ c.unwrap_err.ensures) c.requires.1.1

pub returns-in_default : goal.returns-in_default
returns-in_default c = rw (line_by-refused c.args.book.now c.args.number _ c.unwrap_err.ensures) at c.put_refused.ensures

pub returns : goal.returns
returns c = rw (line_by-found c.args.book.now c.args.number _ c.in-Ok.is) at c.put_word.ensures
