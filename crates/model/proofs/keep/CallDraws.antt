-- No call takes more draws than are lent: a change a few, a pick as many as its own law allows.
use mathlib.Core.Path.{◌≡◌, refl}
use Prim.Native.Nat.{ℕ, ◌≤◌}
use native.Mathlib.Omega.{arith}
use mathlib.Core.Bool.{Bool}
use mathlib.Core.Option.{Option, none, some}
use Rattle.model.specs.State.{Picker, min_draws}
use Rattle.model.specs.list.Order.{drawing}
use Rattle.model.specs.change.Changes.{inc_refcount_all, dec_refcount_all, lock_piece, piece_passed, Change, quietly, inc_refcount}
use Rattle.model.specs.change.Changes.{dec_refcount, set_piece_priority, mark_as_downloading, mark_as_writing, mark_as_finished}
use Rattle.model.specs.change.Changes.{mark_as_canceled, abort_download}
use Rattle.model.specs.ask.Questions.{Reply, reply}
use Rattle.model.specs.image.Sound.{Sound}
use Rattle.model.specs.Calls.{Action, question, do_inc_refcount, do_dec_refcount, do_inc_refcount_all, do_dec_refcount_all, do_set_piece_priority}
use Rattle.model.specs.Calls.{do_mark_as_downloading, do_mark_as_writing, do_mark_as_finished, do_mark_as_canceled, do_abort_download, do_lock_piece}
use Rattle.model.specs.Calls.{do_piece_passed, do_pick_pieces, Answer, refused, done, said, replied, picked, change_answer, changing, doing}
use Rattle.model.specs.Calls.{answering, picking, act, lent_peer, lent_request, refusal}
use Rattle.model.proofs.pick.SoundPick.{pick_draws}
use Rattle.model.proofs.keep.ChangeParts.{Part, inc_part, dec_part, priority_part, downloading_part, writing_part, finished_part}
use Rattle.model.proofs.keep.ChangeParts.{canceled_part, abort_part}
use Rattle.model.proofs.keep.KeepCalls.{pick_fits}

-- ---- every call
-- the draws that an answer tells of
unfoldable pub draws_in : Answer → ℕ
draws_in (refused why) = 0
draws_in (done used) = used
draws_in (said b used) = used
draws_in (replied t) = 0
draws_in (picked bs flags loops used) = used

changed_draws : (b : Option Bool) (n : ℕ) → draws_in (change_answer b n) ≡ n
unfolding draws_in change_answer
changed_draws none n = refl
changed_draws (some b) n = refl

-- a change from no draw on to at most three
few_enough : {n : ℕ} (s : Picker) (c : Change) → Part n (drawing 0 s) c.after → n ≤ 3 → draws_in (changing c).answer ≤ min_draws
unfolding changing answering drawing
few_enough s c f h = let a = f.draws in omega (arith, changed_draws c.answer c.after.used)

-- a change that takes none
none_drawn : (s : Picker) → draws_in (doing (drawing 0 s)).answer ≤ min_draws
unfolding doing changing answering quietly drawing
none_drawn s = omega (arith, changed_draws none 0)

told_none : (t : Reply) → draws_in (replied t) ≤ min_draws
unfolding draws_in
told_none t = omega arith

-- a call that is not refused takes no more draws than are lent
pub act_draws : (s : Picker) (x : Action) → Sound s → refusal s x ≡ none → draws_in (act s x).answer ≤ min_draws
unfolding act doing drawing answering quietly picking draws_in
act_draws s (question q) v e = told_none (reply s q)
act_draws s (do_inc_refcount i ds) v e = few_enough s (quietly (inc_refcount ds i (drawing 0 s))) (inc_part ds i (drawing 0 s)) (omega arith)
act_draws s (do_dec_refcount i ds) v e = few_enough s (quietly (dec_refcount ds i (drawing 0 s))) (dec_part ds i (drawing 0 s)) (omega arith)
act_draws s do_inc_refcount_all v e = none_drawn (inc_refcount_all s)
act_draws s do_dec_refcount_all v e = none_drawn (dec_refcount_all s)
act_draws s (do_set_piece_priority i priority ds) v e = few_enough s (set_piece_priority ds i priority (drawing 0 s)) (priority_part ds i priority (drawing 0 s)) (omega arith)
act_draws s (do_mark_as_downloading i j peer options ds) v e =
    few_enough s (mark_as_downloading ds i j (lent_peer peer) options (drawing 0 s)) (downloading_part ds i j (lent_peer peer) options (drawing 0 s)) (omega arith)
act_draws s (do_mark_as_writing i j peer ds) v e =
    few_enough s (mark_as_writing ds i j (lent_peer peer) (drawing 0 s)) (writing_part ds i j (lent_peer peer) (drawing 0 s)) (omega arith)
act_draws s (do_mark_as_finished i j peer ds) v e =
    few_enough s (quietly (mark_as_finished ds i j (lent_peer peer) (drawing 0 s))) (finished_part ds i j (lent_peer peer) (drawing 0 s)) (omega arith)
act_draws s (do_mark_as_canceled i j peer ds) v e =
    few_enough s (quietly (mark_as_canceled ds i j (lent_peer peer) (drawing 0 s))) (canceled_part ds i j (lent_peer peer) (drawing 0 s)) (omega arith)
act_draws s (do_abort_download i j peer ds) v e =
    few_enough s (quietly (abort_download ds i j (lent_peer peer) (drawing 0 s))) (abort_part ds i j (lent_peer peer) (drawing 0 s)) (omega arith)
act_draws s (do_lock_piece i) v e = none_drawn (lock_piece i s)
act_draws s (do_piece_passed i) v e = none_drawn (piece_passed i s)
act_draws s (do_pick_pieces a free ds) v e = pick_draws ds s (lent_request a) v (pick_fits s a free ds e)
