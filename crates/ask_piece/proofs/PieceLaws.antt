-- The answers of a piece that are made of several numbers. Assumes nothing.
use mathlib.Core.Path.{◌≡◌, refl, ap, ◌∙◌}
use mathlib.Core.Bool.{not, cond}
use mathlib.Core.List.{List, [], ◌∷◌}
use mathlib.Core.Option.{Option, none, some}
use Prim.Native.Nat.{ℕ, suc, ◌+◌, ◌-◌, ◌/◌, ◌≤◌, ◌<◌}
use native.Mathlib.Omega.{arith}
use lib.Dec.{eqb, ltb}
use borrow.Author.Tests.{lt-ltb}
use Rattle.types.specs.Queue.{queue_number}
use Rattle.model.specs.Lists.{bit}
use Rattle.model.specs.Bep3.{block_length, num_pieces}
use Rattle.model.specs.State.{piece_at, is_open, same_queue, blocks_in_piece, payload_blocks_in_piece}
use Rattle.model.specs.list.Order.{rank, rank_of, bucket}
use Rattle.model.specs.ask.Questions.{reply_piece, stats, availability, one, numbers, ask_blocks_in_piece, ask_payload_blocks_in_piece}
use Rattle.model.specs.ask.Questions.{get_availability, piece_stats}
use Rattle.model.proofs.sound.SoundLaws.{well_formed_sound}
use Rattle.model.proofs.sound.SoundBody.{piece_in}
use Rattle.geometry.proofs.PartLaws.{part_some}
use Rattle.memory_layout.specs.declared.shape.Shape.{Shape}
use Rattle.memory_layout.specs.Decode.{head_word, pieces_on, decode}
use Rattle.memory_layout.specs.Bounds.{ShapeOf}
use Rattle.memory_layout.specs.Standing.{StandsBeside}
use Rattle.memory_layout.proofs.Meanings.{pieces_number, peer_count_is, priority_is}
use Rattle.memory_fields.specs.Reading.{HeadSays, CellsSay, WordsSay}
use Rattle.memory_ranks.specs.CellRanks.{Ranges, IsRankAt}
use Rattle.ask_picker.specs.Telling.{BothSay}
use Rattle.ask_picker.proofs.AskedLaws.{peers_few}
use Rattle.ask_piece.specs.declared.stats.PieceStats.{PieceStats}
use Rattle.ask_piece.specs.Stats.{stats_reply}
use Rattle.ask_piece.proofs.ReplyLaws.{one_is}

-- ---- lengths
-- a piece of the shape is one of the geometry
pub piece_there : (s : Shape) (words : List ℕ) (i : ℕ) → ShapeOf s words → i < s.pieces
    → i < num_pieces (head_word words 0) (head_word words 1)
unfolding pieces_on
piece_there s words i g h = omega (arith, g.pieces)

-- so its blocks have a length
pub block_long : (s : Shape) (words : List ℕ) (i : ℕ) → ShapeOf s words → i < s.pieces → 1 ≤ block_length (head_word words 1)
unfolding block_length num_pieces
block_long s words i g h = omega (arith, part_some (head_word words 0) (head_word words 1) i (piece_there s words i g h))

-- the blocks without those that pads fill
pub payload_says : (s : Shape) (words : List ℕ) (i blocks pad long r : ℕ)
    → HeadSays words (λ d. reply_piece d i ask_blocks_in_piece) (one blocks)
    → WordsSay s words (λ d. (piece_at d i).pad_bytes) pad → long ≡ block_length (head_word words 1) → r ≡ blocks - pad / long
    → WordsSay s words (λ d. reply_piece d i ask_payload_blocks_in_piece) (one r)
unfolding reply_piece payload_blocks_in_piece
payload_says s words i blocks pad long r b p l e = record {
  is = λ records cells q.
      let d = decode records words cells in
      let f : blocks ≡ blocks_in_piece d i = one_is blocks (blocks_in_piece d i) (b.is records cells) in
      ap one (e ∙ rw (f, p.is records cells q, l));
}

-- ---- how many have it
module _ (s : Shape) (words cells : List ℕ) (g : StandsBeside s words cells) (i : ℕ) (h : i < s.pieces) where
  -- the sum is small
  pub peers_low : (peers seeds : ℕ) → CellsSay s cells (λ d. (piece_at d i).peer_count) peers → HeadSays words (λ d. d.seeds) seeds
      → peers + seeds ≤ 1000
  peers_low peers seeds p e =
      omega (
        arith,
        p.is g.records words g.stands.bounds,
        e.is g.records cells,
        peers_few s g.records words cells g.stands i h,
      )

-- ---- ranks
-- peer counts and priorities are in range
pub in_range_lem : (s : Shape) (words cells : List ℕ) → StandsBeside s words cells → Ranges s.pieces cells
in_range_lem s words cells g =
    let rs = g.records in
    let d = decode rs words cells in
    let q = g.stands.bounds in
    let w = well_formed_sound d g.stands.sound in
    let m = pieces_number s rs words cells q in
    record {
      peer_count = λ i h.
          omega (arith, (piece_in d i (piece_at d i) (w.piece i (omega arith))).peers, peer_count_is s rs words cells q i h);
      priority = λ i h.
          omega (arith, (piece_in d i (piece_at d i) (w.piece i (omega arith))).priority, priority_is s rs words cells q i h);
    }

-- the bucket of a rank
rank_bucket : (b : Option ℕ) → cond (ltb 0 (rank_of b)) (some (rank_of b - 1)) none ≡ b
unfolding rank_of
rank_bucket none = refl
rank_bucket (some k) = rw (lt-ltb 0 (suc k) (omega arith)) (ap some (omega arith))

-- ---- all of a piece's stats
pub stats_says : (s : Shape) (words cells : List ℕ) (i : ℕ) (r : PieceStats) (v state : ℕ)
    → BothSay s words cells (λ d. reply_piece d i get_availability) (one r.peer_count) → IsRankAt s words cells i v
    → CellsSay s cells (λ d. (piece_at d i).flushed) r.flushed → CellsSay s cells (λ d. queue_number (piece_at d i).state) state
    → r.listed ≡ ltb 0 v → r.priority ≡ v - 1 → r.downloading ≡ not (eqb state 4)
    → BothSay s words cells (λ d. reply_piece d i piece_stats) (stats_reply r)
unfolding reply_piece stats stats_reply is_open same_queue rank
stats_says s words cells i r v state p k f t el ep ed = record {
  is = λ records q.
      let d = decode records words cells in
      let e : r.peer_count ≡ availability d (piece_at d i) = one_is _ _ (p.is records q) in
      let u : cond r.listed (some r.priority) none ≡ bucket d.seeds (piece_at d i) =
      rw (el, ep, k.is q.pieces records) (rank_bucket (bucket d.seeds (piece_at d i))) in
      let x : r.downloading ≡ not (eqb (queue_number (piece_at d i).state) 4) =
      ed ∙ ap (λ (n : ℕ). not (eqb n 4)) (t.is records words q) in
      λ j. numbers (some (e j) ∷ u j ∷ some (bit (f.is records words q j)) ∷ some (bit (x j)) ∷ []);
}
