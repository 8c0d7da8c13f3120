-- A block given back: left, replaced, or made free. Assumes nothing.
use mathlib.Core.Path.{◌≡◌, refl, sym, ap, ◌∙◌}
use mathlib.Core.Logic.{◌≢◌}
use mathlib.Core.Bool.{Bool, false, not, ◌&&◌, true≢false}
use mathlib.Core.List.{List}
use mathlib.Core.Option.{Option, some}
use Prim.Native.Nat.{ℕ, ◌≤◌, ◌<◌}
use lib.Dec.{eqb, ltb}
use borrow.Author.Tests.{eq-eqb, ne_eqb, lt-ltb, le-ltb}
use Rattle.types.specs.Peer.{named_peer}
use Rattle.model.specs.Lists.{nth}
use Rattle.model.specs.State.{Block, DownloadingPiece, Picker, same_block_state, with_listing, with_peer, with_piece, with_pieces}
use Rattle.model.specs.list.Order.{Draws, Drawing, drawing, no_draw}
use Rattle.model.specs.change.Partials.{block_at, drop_partial, erase_download_piece, erase_and_update, replace_block}
use Rattle.model.specs.change.Changes.{freed, canceled, released, free_block, abort_in, cancel_in}
use Rattle.model.proofs.sound.SoundFields.{moved_blind}
use Rattle.memory_records.specs.declared.record.DownloadingPiece.{DownloadingPiece as Record}
use Rattle.memory_records.specs.declared.edits.Edit.{Edit}
use Rattle.memory_records.specs.declared.edits.Edit.TheVariants.{Keep}
use Rattle.memory_records.specs.Records.{edited}
use Rattle.memory_layout.specs.declared.shape.Shape.{Shape}
use Rattle.memory_layout.specs.Decode.{head_word, decode, state_from}
use Rattle.memory_layout.specs.Changes.{partial_in}
use Rattle.memory_blocks.specs.declared.info.BlockInfo.{BlockInfo}
use Rattle.memory_blocks.specs.Blocks.{block_of, BlockIs, BlockRead, BlockStored}
use Rattle.change_steps.proofs.WorkLaws.{went_nowhere, went_named}
use Rattle.change_state.specs.declared.states.Tally.{Tally}
use Rattle.change_blocks.specs.Replacing.{TallyAt}
use Rattle.change_blocks.proofs.SetLaws.{put_went}
use Rattle.change_blocks.proofs.StandingLaws.{block_there}
use Rattle.change_giving.specs.Returning.{Gave}
use Rattle.change_giving.proofs.FreeLaws.{BlockFreed}

-- ---- the definitions by a block's numbers
module _ (draws : Draws) (i : ℕ) (q : DownloadingPiece) (j : ℕ) (peer : Option ℕ) (w : Drawing) (x : BlockInfo)
    (h : BlockIs x (block_at q j)) where
  peers_are : (block_at q j).num_peers ≡ x.num_peers
  unfolding block_of
  peers_are = ap (λ (b : Block). b.num_peers) (sym h.is)

  abort_other : x.state ≢ 1 → abort_in draws i (some q) j peer w ≡ w
  unfolding abort_in same_block_state
  abort_other n = rw (← h.state, ne_eqb x.state 1 n) refl

  abort_many : x.state ≡ 1 → 1 < x.num_peers → (y : BlockInfo) → block_of y ≡ released peer (block_of x)
      → abort_in draws i (some q) j peer w ≡ no_draw (replace_block q j (block_of y)) w
  unfolding abort_in same_block_state
  abort_many e m y f =
      rw (← h.state, eq-eqb x.state 1 e, ap (ltb 1) peers_are ∙ lt-ltb 1 x.num_peers m)
      (ap (λ (b : Block). no_draw (replace_block q j b) w) (sym (f ∙ ap (released peer) h.is)))

  abort_last : x.state ≡ 1 → x.num_peers ≤ 1 → (y : BlockInfo) → block_of y ≡ freed
      → abort_in draws i (some q) j peer w ≡ free_block draws i q j (block_of y) w
  unfolding abort_in same_block_state
  abort_last e m y f =
      rw (← h.state, eq-eqb x.state 1 e, ap (ltb 1) peers_are ∙ le-ltb 1 x.num_peers m)
      (ap (λ (b : Block). free_block draws i q j b w) (sym f))

  cancel_finished : x.state ≡ 3 → cancel_in draws i (some q) j peer w ≡ w
  unfolding cancel_in same_block_state
  cancel_finished e = rw (← h.state, eq-eqb x.state 3 e) refl

  cancel_writing : x.state ≢ 3 → x.state ≡ 2 → (y : BlockInfo) → block_of y ≡ canceled peer (block_of x)
      → cancel_in draws i (some q) j peer w ≡ free_block draws i q j (block_of y) w
  unfolding cancel_in same_block_state
  cancel_writing n e y f =
      rw (← h.state, ne_eqb x.state 3 n, eq-eqb x.state 2 e)
      (ap (λ (b : Block). free_block draws i q j b w) (sym (f ∙ ap (canceled peer) h.is)))

  cancel_other : x.state ≢ 3 → x.state ≢ 2 → (y : BlockInfo) → block_of y ≡ with_peer peer (block_of x)
      → cancel_in draws i (some q) j peer w ≡ no_draw (replace_block q j (block_of y)) w
  unfolding cancel_in same_block_state
  cancel_other n m y f =
      rw (← h.state, ne_eqb x.state 3 n, ne_eqb x.state 2 m)
      (ap (λ (b : Block). no_draw (replace_block q j b) w) (sym (f ∙ ap (with_peer peer) h.is)))

-- the partials after one is closed and the list mended
erased_partials : (draws : Draws) (i : ℕ) (d : Picker) → (erase_and_update draws i (drawing 0 d)).picker.partials ≡ (drop_partial i d).partials
unfolding erase_and_update erase_download_piece with_piece with_pieces with_listing drawing
erased_partials draws i d =
    moved_blind (λ u. u.partials ≡ (drop_partial i d).partials) (λ l u q. q) draws i (erase_download_piece i) (drawing 0 d) refl

module _ (s : Shape) (words cells : List ℕ) (i p j : ℕ) (t : Tally) where
  -- ---- by what is done
  module _ (draws : Draws) (change : (found : Option DownloadingPiece) (w : Drawing) → Drawing) where
    -- the change on partial k is this one
    abbrev Is : (other : DownloadingPiece → Drawing → Drawing) → Type 0
    Is other = (records : List Record) (k : ℕ) → TallyAt s records words cells i p j t k
        → change (some (partial_in (decode records words cells) k)) (drawing 0 (decode records words cells))
        ≡ other (partial_in (decode records words cells) k) (drawing 0 (decode records words cells))

    gave_nothing : Is (λ q w. w) → Gave s change i p j t words cells words cells Keep 0
    gave_nothing e = record {
      closed = false;
      edits = refl;
      went = λ records k a.
          went_nowhere s records words cells 0 (change (some (partial_in (decode records words cells) k))) a.stands.works
          (e records k a);
      others = λ f. absurd (true≢false (sym f));
    }

    gave_put : (x : BlockInfo) (words' cells' : List ℕ) → BlockStored s words cells words' cells' p j x
        → Is (λ q. no_draw (replace_block q j (block_of x))) → Gave s change i p j t words cells words' cells' Keep 0
    unfolding no_draw drawing
    gave_put x words' cells' b e = record {
      closed = false;
      edits = refl;
      went = λ records k a.
          went_named s records words cells 0 records words' cells' 0 (no_draw (λ d. replace_block (partial_in d k) j (block_of x) d))
          (change (some (partial_in (decode records words cells) k))) (sym (e records k a))
          (put_went s i p j x words cells words' cells' b records k a.stands 0);
      others = λ f. absurd (true≢false (sym f));
    }

    gave_freed : (x : BlockInfo) (words' cells' : List ℕ) (edit : Edit) (next : ℕ)
        → BlockFreed s draws i p j x t words cells words' cells' edit next
        → Is (λ q. free_block draws i q j (block_of x)) → Gave s change i p j t words cells words' cells' edit next
    unfolding free_block
    gave_freed x words' cells' edit next b e = record {
      closed = eqb t.busy 1 && not t.hashing;
      edits = b.edits;
      went = λ records k a.
          went_named s records words cells 0 (edited (head_word words 7) edit records) words' cells' next
          (free_block draws i (partial_in (decode records words cells) k) j (block_of x))
          (change (some (partial_in (decode records words cells) k))) (sym (e records k a))
          (b.went records k a);
      others = λ f records k a.
          let d = decode records words cells in
          let closes : free_block draws i (partial_in d k) j (block_of x) (drawing 0 d) ≡ erase_and_update draws i (drawing 0 d) =
          rw (← a.tally.busy, ← a.tally.hashing, f) refl in
          ap (λ (w : Drawing). w.picker.partials) (e records k a ∙ closes) ∙ erased_partials draws i d;
    }

  -- ---- the two changes of a block, whose numbers are x
  module _ (draws : Draws) (has : Bool) (peer : ℕ) (x : BlockInfo) (r : BlockRead s words cells p j x) where
    abbrev abort : (found : Option DownloadingPiece) (w : Drawing) → Drawing
    abort found w = abort_in draws i found j (named_peer has peer) w

    abbrev cancel : (found : Option DownloadingPiece) (w : Drawing) → Drawing
    cancel found w = cancel_in draws i found j (named_peer has peer) w

    -- a requester less
    pub release_nothing : x.state ≢ 1 → Gave s abort i p j t words cells words cells Keep 0
    release_nothing n =
        gave_nothing draws abort
        (λ records k a. abort_other draws i _ j (named_peer has peer) _ x (block_there s words cells i p j t x r records k a) n)

    pub release_put : x.state ≡ 1 → 1 < x.num_peers → (y : BlockInfo) → block_of y ≡ released (named_peer has peer) (block_of x)
        → (words' cells' : List ℕ) → BlockStored s words cells words' cells' p j y
        → Gave s abort i p j t words cells words' cells' Keep 0
    release_put e m y f words' cells' b =
        gave_put draws abort y words' cells' b
        (λ records k a. abort_many draws i _ j (named_peer has peer) _ x (block_there s words cells i p j t x r records k a) e m y f)

    pub release_free : x.state ≡ 1 → x.num_peers ≤ 1 → (word : ℕ) (words' cells' : List ℕ) (edit : Edit) (next : ℕ)
        → BlockFreed s draws i p j (record { state = 0; num_peers = 0; has_peer = false; peer = word }) t words cells
        words' cells' edit next
        → Gave s abort i p j t words cells words' cells' edit next
    unfolding block_of freed state_from nth
    release_free e m word words' cells' edit next b =
        let y : BlockInfo = record { state = 0; num_peers = 0; has_peer = false; peer = word } in
        gave_freed draws abort y words' cells' edit next b
        (λ records k a. abort_last draws i _ j (named_peer has peer) _ x (block_there s words cells i p j t x r records k a) e m y refl)

    -- a write that failed
    pub cancel_nothing : x.state ≡ 3 → Gave s cancel i p j t words cells words cells Keep 0
    cancel_nothing e =
        gave_nothing draws cancel
        (λ records k a. cancel_finished draws i _ j (named_peer has peer) _ x (block_there s words cells i p j t x r records k a) e)

    pub cancel_free : x.state ≢ 3 → x.state ≡ 2 → (words' cells' : List ℕ) (edit : Edit) (next : ℕ)
        → BlockFreed s draws i p j (record { state = 0; num_peers = x.num_peers; has_peer = has; peer = peer }) t words cells
        words' cells' edit next
        → Gave s cancel i p j t words cells words' cells' edit next
    unfolding block_of canceled state_from nth
    cancel_free n e words' cells' edit next b =
        let y : BlockInfo = record { state = 0; num_peers = x.num_peers; has_peer = has; peer = peer } in
        gave_freed draws cancel y words' cells' edit next b
        (λ records k a. cancel_writing draws i _ j (named_peer has peer) _ x (block_there s words cells i p j t x r records k a) n e y refl)

    pub cancel_put : x.state ≢ 3 → x.state ≢ 2 → (words' cells' : List ℕ)
        → BlockStored s words cells words' cells' p j
        (record { state = x.state; num_peers = x.num_peers; has_peer = has; peer = peer })
        → Gave s cancel i p j t words cells words' cells' Keep 0
    unfolding block_of with_peer
    cancel_put n m words' cells' b =
        let y : BlockInfo = record { state = x.state; num_peers = x.num_peers; has_peer = has; peer = peer } in
        gave_put draws cancel y words' cells' b
        (λ records k a. cancel_other draws i _ j (named_peer has peer) _ x (block_there s words cells i p j t x r records k a) n m y refl)
