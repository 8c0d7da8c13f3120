-- A public answer written as a struct of numbers is what the struct says. Assumes nothing.
use Rattle.std.specs.Prelude.{ℕ, Bool, Err, None, Ok, Option, Result, Some, ⊤}
use Rattle.types.specs.declared.refusal.Refusal.{Refusal}
use Rattle.pick_pieces.specs.declared.pieces.Picked.{Picked}
use Rattle.ask_totals.specs.declared.count.PieceCount.{PieceCount}
use Rattle.ask_progress.specs.declared.QueueSizes.{QueueSizes}
use Rattle.ask_places.specs.declared.Placed.{Placed}
use Rattle.ask_piece.specs.declared.stats.PieceStats.{PieceStats}
use Rattle.ask_partial.specs.declared.info.PieceInfo.{PieceInfo}
use Rattle.ask_columns.specs.declared.copies.DistributedCopies.{DistributedCopies}
use Rattle.ask_block.specs.declared.peers.PeerOf.{PeerOf}
use mir.ValLaws.{to_z-of_z}
use mathlib.Core.Path.{◌≡◌, refl, ap}
use mathlib.Core.Bool.{true, false}
use Rattle.picker_calls.specs.declared.outcomes.Outcome.{Outcome}
use Rattle.picker_calls.specs.declared.outcomes.Outcome.TheVariants.{Done, Said}
use Rattle.ask_places.specs.declared.Placed.TheVariants.{Number, Nothing, Stale}
use Rattle.ask_block.specs.declared.peers.PeerOf.TheVariants.{Peer, NoPeer, Nothing as NoBlock}
use Rattle.export_answers.specs.Refusals.{refusal_of, unless_refusal}
use Rattle.export_answers.specs.Replies.{of_number, of_flag, of_place, of_partial_flag, of_block_number, of_peer, of_list, of_making, of_image}
use Rattle.export_answers.specs.Records.{of_copies, of_count, of_sizes, of_stats, of_info}
use Rattle.export_answers.specs.Changes.{of_outcome}
use Rattle.export_answers.specs.Picks.{of_pick}
use Rattle.export_answers.specs.Back.{number_in, flag_in, placed_in, place_in, flag_of_in, partial_flag_in, number_of_in, block_number_in, peer_of_in}
use Rattle.export_answers.specs.Back.{peer_in, list_in, making_in, image_in, outcome_in, copies_in, count_in, sizes_in, stats_in, info_in, pick_in}
use Rattle.export_answers.proofs.RefusalLaws.{refusal_back}

pub number_back : (o : Result ℕ Refusal) → number_in (of_number o) ≡ o
unfolding number_in refusal_of
number_back (Err why) = ap (unless_refusal Err (Ok 0)) (refusal_back why)
number_back (Ok n) = refl

pub flag_back : (o : Result Bool Refusal) → flag_in (of_flag o) ≡ o
unfolding flag_in refusal_of
flag_back (Err why) = ap (unless_refusal Err (Ok false)) (refusal_back why)
flag_back (Ok true) = refl
flag_back (Ok false) = refl

pub place_back : (o : Result Placed Refusal) → place_in (of_place o) ≡ o
unfolding place_in placed_in refusal_of
place_back (Err why) = ap (unless_refusal Err (Ok Nothing)) (refusal_back why)
place_back (Ok (Number n)) = refl
place_back (Ok Nothing) = refl
place_back (Ok Stale) = refl

pub partial_flag_back : (o : Result (Option Bool) Refusal) → partial_flag_in (of_partial_flag o) ≡ o
unfolding partial_flag_in flag_of_in refusal_of
partial_flag_back (Err why) = ap (unless_refusal Err (Ok None)) (refusal_back why)
partial_flag_back (Ok (Some true)) = refl
partial_flag_back (Ok (Some false)) = refl
partial_flag_back (Ok None) = refl

pub block_number_back : (o : Result (Option ℕ) Refusal) → block_number_in (of_block_number o) ≡ o
unfolding block_number_in number_of_in refusal_of
block_number_back (Err why) = ap (unless_refusal Err (Ok None)) (refusal_back why)
block_number_back (Ok (Some n)) = refl
block_number_back (Ok None) = refl

pub peer_back : (o : Result PeerOf Refusal) → peer_in (of_peer o) ≡ o
unfolding peer_in peer_of_in refusal_of
peer_back (Err why) = ap (unless_refusal Err (Ok NoBlock)) (refusal_back why)
peer_back (Ok (Peer n)) = refl
peer_back (Ok NoPeer) = refl
peer_back (Ok NoBlock) = refl

pub list_back : (o : Result (Option ℕ) Refusal) → list_in (of_list o) ≡ o
unfolding list_in refusal_of
list_back (Err why) = ap (unless_refusal Err (Ok None)) (refusal_back why)
list_back (Ok (Some n)) = refl
list_back (Ok None) = refl

pub making_back : (o : Result ⊤ Refusal) → making_in (of_making o) ≡ o
unfolding making_in refusal_of
making_back (Err why) = ap (unless_refusal Err (Ok tt)) (refusal_back why)
making_back (Ok tt) = refl

pub image_back : (o : Result ℕ Refusal) → image_in (of_image o) ≡ o
unfolding image_in refusal_of
image_back (Err why) = ap (unless_refusal Err (Ok 0)) (refusal_back why)
image_back (Ok n) = refl

pub outcome_back : (o : Result Outcome Refusal) → outcome_in (of_outcome o) ≡ o
unfolding outcome_in refusal_of
outcome_back (Err why) = ap (unless_refusal Err _) (refusal_back why)
outcome_back (Ok (Done n)) = refl
outcome_back (Ok (Said true n)) = refl
outcome_back (Ok (Said false n)) = refl

pub copies_back : (o : Result DistributedCopies Refusal) → copies_in (of_copies o) ≡ o
unfolding copies_in refusal_of
copies_back (Err why) = ap (unless_refusal Err _) (refusal_back why)
copies_back (Ok x) = refl

pub count_back : (o : Result PieceCount Refusal) → count_in (of_count o) ≡ o
unfolding count_in refusal_of
count_back (Err why) = ap (unless_refusal Err _) (refusal_back why)
count_back (Ok x) = refl

pub sizes_back : (o : Result QueueSizes Refusal) → sizes_in (of_sizes o) ≡ o
unfolding sizes_in refusal_of
sizes_back (Err why) = ap (unless_refusal Err _) (refusal_back why)
sizes_back (Ok x) = refl

pub stats_back : (o : Result PieceStats Refusal) → stats_in (of_stats o) ≡ o
unfolding stats_in refusal_of
stats_back (Err why) = ap (unless_refusal Err _) (refusal_back why)
stats_back (Ok x) = refl

pub info_back : (o : Result PieceInfo Refusal) → info_in (of_info o) ≡ o
unfolding info_in refusal_of
info_back (Err why) = ap (unless_refusal Err _) (refusal_back why)
info_back (Ok x) = refl

pub pick_back : (o : Result Picked Refusal) → pick_in (of_pick o) ≡ o
unfolding pick_in refusal_of
pick_back (Err why) = ap (unless_refusal Err _) (refusal_back why)
pick_back (Ok x) = refl

-- every one of them, for the exports' proofs
pub ruleset backs = (number_back, flag_back, place_back, partial_flag_back, block_number_back, peer_back, list_back, making_back, image_back, outcome_back, copies_back, count_back, sizes_back, stats_back, info_back, pick_back)

-- a signed argument that is handed on as it came
pub ruleset signed = (to_z-of_z)
