-- `reading::letters` is the part of the book that `check_preset` names, or the empty part at its front.
-- Assumes nothing.
use mathlib.Core.Path.{refl}
use native.Mathlib.Omega.{arith}
use Rattle.book_format.proofs.PresetLaws.{found, found_inside, found_small, letters_of-found, letters_start-found}
use Rattle.book_format.proofs.PresetLaws.{refused, letters_of-refused, letters_start-refused}
use Rattle.book.proofs.reading.letters.Goals as goal

pub overflow_add-result : goal.overflow_add-result
overflow_add-result c = let h = found_small (found c.in-Ok.ensures) in omega arith

pub slice_bounds-result-end : goal.slice_bounds-result-end
slice_bounds-result-end c = found_inside (found c.in-Ok.ensures)

pub returns-in-Ok : goal.returns-in-Ok
returns-in-Ok c = let f = found c.in-Ok.ensures in record { result_value = letters_of-found f; ref_ptr_value = (refl, letters_start-found _ f) }

pub returns-in-Err : goal.returns-in-Err
returns-in-Err c =
    let f = refused _ _ _ _ c.in-Err.ensures in
    record { result_value = letters_of-refused _ _ _ f; ref_ptr_value = (refl, letters_start-refused _ _ _ _ f) }
