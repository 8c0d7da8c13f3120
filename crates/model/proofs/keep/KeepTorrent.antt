-- No call changes the torrent, and so none changes the memory that a picker needs.
use mathlib.Core.Path.{◌≡◌, refl, ap, ap₂}
use Prim.Native.Nat.{ℕ}
use mathlib.Core.List.{List, [], ◌∷◌}
use mathlib.Core.Option.{Option, none, some}
use Rattle.types.specs.declared.refusal.Refusal.{Refusal}
use Rattle.types.specs.declared.refusal.Refusal.TheVariants.{ShortMemory}
use Rattle.model.specs.Lists.{len}
use Rattle.model.specs.Bep3.{whole_piece_blocks}
use Rattle.model.specs.State.{Picker, pieces_in, blocks_per_piece}
use Rattle.model.specs.list.Order.{drawing}
use Rattle.model.specs.change.Changes.{quietly}
use Rattle.model.specs.pick.Pick.{pick_pieces}
use Rattle.model.specs.Calls.{Action, question, do_inc_refcount, do_dec_refcount, do_inc_refcount_all, do_dec_refcount_all, do_set_piece_priority}
use Rattle.model.specs.Calls.{do_mark_as_downloading, do_mark_as_writing, do_mark_as_finished, do_mark_as_canceled, do_abort_download, do_lock_piece}
use Rattle.model.specs.Calls.{do_piece_passed, do_pick_pieces, Call, answering, changing, doing, lent_peer, lent_request, picking, act, check}
use Rattle.model.specs.Memory.{memory_for, memory_needed, is_short}
use Rattle.model.specs.Calls.{refusal, unless_refused, step, run}
use Rattle.model.proofs.pick.SoundPick.{ask_fits, OnlyLists, pick_only}
use Rattle.model.proofs.keep.KeepCalls.{check-none, pick_fits}
use Rattle.model.proofs.keep.ChangeParts.{SameTorrent, same_torrent, torrent_then, inc_part, dec_part, inc_all_torrent}
use Rattle.model.proofs.keep.ChangeParts.{dec_all_torrent, priority_part, downloading_part, writing_part, finished_part}
use Rattle.model.proofs.keep.ChangeParts.{canceled_part, abort_part, lock_torrent, pass_torrent}

lists_torrent : (ds : List ℕ) (s t : Picker) → OnlyLists ds s t → SameTorrent s t
unfolding pieces_in
lists_torrent ds s t o = record { total_size = o.total_size; piece_size = o.piece_size; many = ap len o.pieces }

-- what a call does that is not refused
pub act_torrent : (s : Picker) (x : Action) → refusal s x ≡ none → SameTorrent s (act s x).after
unfolding act answering doing changing quietly picking drawing
act_torrent s (question q) e = same_torrent s
act_torrent s (do_inc_refcount i ds) e = (inc_part ds i (drawing 0 s)).torrent
act_torrent s (do_dec_refcount i ds) e = (dec_part ds i (drawing 0 s)).torrent
act_torrent s do_inc_refcount_all e = inc_all_torrent s
act_torrent s do_dec_refcount_all e = dec_all_torrent s
act_torrent s (do_set_piece_priority i priority ds) e = (priority_part ds i priority (drawing 0 s)).torrent
act_torrent s (do_mark_as_downloading i j peer options ds) e = (downloading_part ds i j (lent_peer peer) options (drawing 0 s)).torrent
act_torrent s (do_mark_as_writing i j peer ds) e = (writing_part ds i j (lent_peer peer) (drawing 0 s)).torrent
act_torrent s (do_mark_as_finished i j peer ds) e = (finished_part ds i j (lent_peer peer) (drawing 0 s)).torrent
act_torrent s (do_mark_as_canceled i j peer ds) e = (canceled_part ds i j (lent_peer peer) (drawing 0 s)).torrent
act_torrent s (do_abort_download i j peer ds) e = (abort_part ds i j (lent_peer peer) (drawing 0 s)).torrent
act_torrent s (do_lock_piece i) e = lock_torrent i s
act_torrent s (do_piece_passed i) e = pass_torrent i s
act_torrent s (do_pick_pieces a free ds) e =
    lists_torrent ds s (pick_pieces ds s (lent_request a)).picker (pick_only ds s (lent_request a) (ask_fits s (lent_request a) (pick_fits s a free ds e)).some)

-- a call, refused or not
pub step_torrent : (s : Picker) (c : Call) → SameTorrent s (step s c).after
unfolding step unless_refused answering
step_torrent s c = go (check (is_short c.lent (memory_needed s)) ShortMemory (refusal s c.action)) refl
  where
    go : (r : Option Refusal) → check (is_short c.lent (memory_needed s)) ShortMemory (refusal s c.action) ≡ r
        → SameTorrent s (unless_refused r s c.action).after
    go none e = act_torrent s c.action (check-none (is_short c.lent (memory_needed s)) ShortMemory (refusal s c.action) e).1
    go (some why) e = same_torrent s

-- any calls, one after another
pub run_torrent : (s : Picker) (cs : List Call) → SameTorrent s (run s cs)
unfolding run
run_torrent s [] = same_torrent s
run_torrent s (c ∷ cs) = torrent_then (step_torrent s c) (run_torrent (step s c).after cs)

-- ---- the memory needed
-- it is that of the torrent
torrent_memory : (s t : Picker) → SameTorrent s t → memory_needed t ≡ memory_needed s
unfolding memory_needed blocks_per_piece
torrent_memory s t e = ap₂ memory_for e.many (ap whole_piece_blocks e.piece_size)

-- no call changes it
pub run_memory : (s : Picker) (cs : List Call) → memory_needed (run s cs) ≡ memory_needed s
run_memory s cs = torrent_memory s (run s cs) (run_torrent s cs)
