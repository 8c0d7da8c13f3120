-- Every worked case of document 01 holds.
use mathlib.Core.Path.{◌≡◌, refl}
use Rattle.model.specs.Lists.{each}
use Rattle.model.proofs.cases.Everything.{everything}
use Rattle.agreement.specs.Cases.{piece_of, open_picker, request_of, span_around, numbers, give, cases}

-- the definitions give what each case of the table is due
pub cases_hold : each (λ c. give c.query) cases ≡ each (λ c. c.due) cases
unfolding everything piece_of open_picker request_of span_around numbers give cases
cases_hold = refl
