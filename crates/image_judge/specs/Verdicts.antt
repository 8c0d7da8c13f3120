-- What the judge answers, by what the definition's reader finds. Assumes nothing.
use Rattle.std.specs.Prelude.{ℕ, ◌≡◌, List, drop, Err, Ok, Result, ⊤}
use Rattle.image_records.specs.declared.pick.Pick.{Pick}
use Rattle.model.specs.Lists.{len}
use Rattle.model.specs.State.{Picker, pieces_in}
use Rattle.model.specs.image.Image.{pick_kind, ret, next, judged, Read, accepted, fault_at, whole}
use Rattle.model.specs.image.Program.{read_request, Job}
use Rattle.image_records.specs.Records.{pick_numbers}

-- an image, or the place of the first fault
unfoldable pub verdict_of : (read : Read Picker) → Result ⊤ ℕ
verdict_of (accepted s) = (Ok tt)
verdict_of (fault_at k) = Err k

-- an image with a pick, or the place of the first fault
unfoldable pub job_verdict : (read : Read Job) → Result Pick ℕ
job_verdict (accepted x) = Ok (pick_numbers x.ask)
job_verdict (fault_at k) = Err k

-- the pick behind the image of any picker
abbrev pub PickTold : (at : ℕ) (bytes : List ℕ) (r : Result Pick ℕ) → Type 0
PickTold at bytes r =
    (s : Picker)
    → r ≡ job_verdict (whole (len bytes) (next (judged pick_kind (read_request (pieces_in s)) (drop at bytes))
    (λ a. ret (record { picker = s; ask = a }))))
