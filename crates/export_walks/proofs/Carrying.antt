-- What holds of a public answer holds of what the struct written for it says. Assumes nothing.
use mathlib.Core.Path.{◌≡◌, sym, ap, subst, ◌∙◌}
use Rattle.export_walks.specs.Saying.{Says}

pub carried : {A B : Type 0} {writes : A → B} {reads : B → A} {P : A → Type 0} {r : B} (back : (o : A) → reads (writes o) ≡ o) (o : A)
    → r ≡ writes o → P o → Says writes reads P r
carried {writes = writes} {reads = reads} {P = P} back o e h =
    let read = ap reads e ∙ back o in
    record { is = subst P (sym read) h; whole = e ∙ ap writes (sym read) }
