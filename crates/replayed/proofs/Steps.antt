-- Recorded calls, a few, computed. Written by compare/steps.py: not to be edited.
use Rattle.std.specs.Prelude.{◌≡◌, refl, true, false, ℕ, List, [], ◌∷◌}
use Rattle.std.proofs.Math.Option.{none, some}
use Rattle.model.specs.Calls.{do_mark_as_downloading, do_pick_pieces, picked, said}
use Rattle.model.specs.pick.Blocks.{piece_block}
use Rattle.replayed.proofs.Replaying.{replaying}
use Rattle.replayed.specs.Replay.{answered, asking, call_line, new_line, not_done, outcome, outcomes, plenty, read_line, stands, words}
use Rattle.types.specs.declared.refusal.Refusal.TheVariants.{IllFormedImage}

abbrev image_4960 : List ℕ
image_4960 =
    1 ∷ 0 ∷ 0 ∷ 0 ∷ 0 ∷ 0 ∷ 0 ∷ 128 ∷ 1 ∷ 0 ∷ 0 ∷ 128 ∷ 0 ∷ 0 ∷ 0 ∷ 0 ∷ 0 ∷ 0 ∷ 0 ∷ 0 ∷ 0 ∷ 0 ∷ 2 ∷ 1 ∷
    2 ∷ 0 ∷ 0 ∷ 4 ∷ 4 ∷ 0 ∷ 0 ∷ 0 ∷ 0 ∷ 0 ∷
    2 ∷ 0 ∷ 0 ∷ 4 ∷ 4 ∷ 0 ∷ 0 ∷ 0 ∷ 0 ∷ 0 ∷ []

abbrev image_4962 : List ℕ
image_4962 =
    1 ∷ 0 ∷ 0 ∷ 0 ∷ 0 ∷ 0 ∷ 0 ∷ 128 ∷ 1 ∷ 0 ∷ 0 ∷ 128 ∷ 0 ∷ 0 ∷ 0 ∷ 0 ∷ 0 ∷ 0 ∷ 0 ∷ 0 ∷ 0 ∷ 0 ∷ 2 ∷ 1 ∷
    2 ∷ 0 ∷ 0 ∷ 0 ∷ 4 ∷ 0 ∷ 0 ∷ 0 ∷ 0 ∷ 0 ∷
    2 ∷ 0 ∷ 0 ∷ 4 ∷ 4 ∷ 0 ∷ 0 ∷ 0 ∷ 0 ∷ 0 ∷
    3 ∷ 0 ∷ 0 ∷ 0 ∷ 0 ∷ 0 ∷
    4 ∷ 1 ∷ 0 ∷ 1 ∷ 1 ∷ 0 ∷ 0 ∷ 0 ∷ 0 ∷ 0 ∷ 0 ∷ 0 ∷ 1 ∷
    4 ∷ 0 ∷ 0 ∷ 0 ∷ 0 ∷ 0 ∷ 0 ∷ 0 ∷ 0 ∷ 0 ∷ 0 ∷ 0 ∷ 0 ∷ []

-- calls 4960 to 4962
calls_4960 :
    outcomes none
    (new_line plenty 32769 32768
    ∷ call_line plenty (do_pick_pieces (asking 4038 13 2 0 (some 0) 2 (116 ∷ []) []) 4351 (words 4352 (1401185574 ∷ [])))
    ∷ call_line plenty (do_mark_as_downloading 0 0 (some 1) 0 (words 4352 []))
    ∷ [])
    ≡ outcome stands image_4960
    ∷ outcome (answered (picked ((piece_block 1 0) ∷ []) 11264 (0 ∷ 0 ∷ 0 ∷ 0 ∷ 1 ∷ 1 ∷ 0 ∷ []) 1)) image_4960
    ∷ outcome (answered (said true 0)) image_4962
    ∷ []
unfolding replaying
calls_4960 = refl

-- call 6412
calls_6412 :
    outcomes none
    (read_line plenty []
    ∷ [])
    ≡ outcome (not_done (IllFormedImage 0)) []
    ∷ []
unfolding replaying
calls_6412 = refl
