-- The blocks that another peer was asked for: one of them, and all of a partial's. Assumes nothing.
use mathlib.Core.Path.{◌≡◌, sym, ap, ap₂, ◌∙◌}
use mathlib.Core.Bool.{Bool, not, ◌&&◌}
use mathlib.Core.List.{List}
use mathlib.Core.Option.{Option}
use Prim.Native.Nat.{ℕ, ◌+◌, ◌≤◌, ◌<◌}
use native.Mathlib.Omega.{arith}
use lib.Dec.{eqb}
use lib.ListN.{length, get_or, set, length-set}
use lib.Seq.{get_or-take, length-take-le}
use Rattle.types.specs.Peer.{named_peer}
use Rattle.model.specs.Lists.{bit, from, filter, nth, len}
use Rattle.model.specs.State.{Block, DownloadingPiece, no_block, same_block_state, same_peer}
use Rattle.model.specs.change.Partials.{block_at}
use Rattle.model.specs.pick.Pick.{busy_blocks}
use Rattle.memory_layout.specs.declared.shape.Shape.{Shape}
use Rattle.memory_layout.specs.Tables.{tabulate}
use Rattle.memory_layout.specs.Decode.{block_held}
use Rattle.memory_layout.proofs.TableLaws.{tabulate-len, tabulate-nth}
use Rattle.memory_blocks.specs.declared.info.BlockInfo.{BlockInfo}
use Rattle.memory_blocks.specs.Blocks.{block_of, BlockRead}
use Rattle.pick_state.specs.declared.request.PickRequest.{PickRequest}
use Rattle.pick_state.specs.Requests.{request_of}
use Rattle.memory_records.specs.Rows.{row_at}
use Rattle.memory_layout.specs.Decode.{blocks_of}
use Rattle.memory_layout.specs.Changes.{partial_in}
use Rattle.memory_rows.specs.Lookup.{picker_in}
use Rattle.ask_picker.specs.Asked.{Asked}
use Rattle.pick_partial.proofs.PartialLaws.{this-blocks, plain_there}
use Rattle.pick_append.proofs.RowLaws.{Gathered, gather_next, gather_end}
use Rattle.pick_busy.specs.Busy.{is_busy, BusySays, BusyAt, BusyIn}
use Rattle.pick_busy.proofs.ListLaws.{filter_below, filter_low}

-- ---- one block
pub busy_says : (peer : Option ℕ) (b : BlockInfo) (same : Bool) → same ≡ same_peer (block_of b).peer peer
    → BusySays peer b (eqb b.state 1 && not same)
unfolding is_busy same_block_state
busy_says peer b same e = record {
  is = λ y g.
      ap₂ (λ (n : ℕ) (t : Bool). eqb n 1 && not t) g.state (e ∙ ap (λ (z : Block). same_peer z.peer peer) g.is);
}

-- ---- those at a place, gathered
module _ (words cells : List ℕ) (s : Shape) (p many : ℕ) (peer : Option ℕ) (j n : ℕ) (row : List ℕ)
    (g : Gathered (λ i. is_busy peer (block_held words cells s.pieces s.blocks p i)) many j n row) (l : length row ≡ 512) where
  pub busy_next : j < many → many ≤ s.blocks → s.blocks ≤ 256 → (b : BlockInfo) → BlockRead s words cells p j b → (busy : Bool)
      → BusySays peer b busy → (row' : List ℕ) → row' ≡ set row n j → (n' : ℕ) → n' ≡ n + bit busy
      → Gathered (λ i. is_busy peer (block_held words cells s.pieces s.blocks p i)) many (j + 1) n' row' × (length row' ≡ 512)
  busy_next h a c b r busy y row' e n' f =
      let few = g.few in (
        rw e (gather_next (λ i. is_busy peer (block_held words cells s.pieces s.blocks p i)) many j n row g h (omega arith) busy
            (y.is (block_held words cells s.pieces s.blocks p j) r.held) n' f),
        ap length e ∙ length-set row n j ∙ l,
      )

  pub busy_all : many ≤ j → BusyAt words cells s p many peer n row
  busy_all h = record {
    is = gather_end (λ i. is_busy peer (block_held words cells s.pieces s.blocks p i)) many j n row g h;
    few = let a = g.few in let b = g.low in omega arith;
    long = l;
  }

-- ---- a partial's
module _ (words cells : List ℕ) (s : Shape) (p many : ℕ) (q : PickRequest) (n : ℕ) (row : List ℕ)
    (g : BusyAt words cells s p many (named_peer q.has_peer q.peer) n row) (few : many ≤ 256) (d : DownloadingPiece)
    (e : d.blocks ≡ tabulate many (block_held words cells s.pieces s.blocks p)) where
  abbrev held : ℕ → Block
  held = block_held words cells s.pieces s.blocks p

  block_is : (j : ℕ) → j < many → block_at d j ≡ held j
  unfolding block_at
  block_is j h = ap (λ (bs : List Block). nth no_block bs j) e ∙ tabulate-nth many held j no_block h

  blocks_are : (bytes : List ℕ) → filter (λ j. is_busy (named_peer q.has_peer q.peer) (held j)) (from 0 many) ≡ busy_blocks (request_of q bytes) d
  unfolding busy_blocks is_busy request_of
  blocks_are bytes =
      let peer = named_peer q.has_peer q.peer in
      filter_below (λ j. is_busy peer (held j)) (λ j. is_busy peer (block_at d j)) 0 many
      (λ j a b. ap (is_busy peer) (sym (block_is j (omega arith))))
      ∙ ap (λ (m : ℕ). filter (λ j. is_busy peer (block_at d j)) (from 0 m)) (sym (ap len e ∙ tabulate-len many held))

  pub busy_in : BusyIn q d n row
  busy_in = record {
    is = λ bytes. g.is ∙ blocks_are bytes;
    few = let a = g.few in omega arith;
    low = λ j h.
        let a = g.few in
        let b = g.long in
        let t : ℕ → Bool = λ i. is_busy (named_peer q.has_peer q.peer) (held i) in
        let l : length (filter t (from 0 many)) ≡ n = ap length (sym g.is) ∙ length-take-le n row (omega arith) in
        let x : get_or row j 0 ≡ get_or (filter t (from 0 many)) j 0 = sym (get_or-take n row j 0 h) ∙ ap (λ (r : List ℕ). get_or r j 0) g.is in
        let y = filter_low t 0 many j (omega arith) in
        omega arith;
    long = g.long;
  }

-- of the partial in row k
pub busy_of_row : (s : Shape) (live : ℕ) (rows words cells : List ℕ) (g : Asked s live rows words cells) (k : ℕ) (h : k < live) (q : PickRequest)
    (i p many : ℕ) → i ≡ (row_at rows k).index → p ≡ (row_at rows k).info_idx → many ≡ blocks_of words i → (n : ℕ) (row : List ℕ)
    → BusyAt words cells s p many (named_peer q.has_peer q.peer) n row
    → BusyIn q (partial_in (picker_in live rows words cells) k) n row
busy_of_row s live rows words cells g k h q i p many ei ep em n row b =
    let x = plain_there s live rows words cells g k h i p many ei ep em in
    let w = g.stands.bounds.spans.in_words.sizes.wide in
    busy_in words cells s p many q n row b (let y = x.1.2 in omega arith) (partial_in (picker_in live rows words cells) k)
    (this-blocks s live rows words cells g k h
    ∙ (λ m. tabulate ((ap (blocks_of words) (sym ei) ∙ sym em) m) (block_held words cells s.pieces s.blocks (sym ep m))))
