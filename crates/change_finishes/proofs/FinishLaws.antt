-- A block of a standing partial on disk, in the buffers: left, replaced, or replaced and the piece flushed. Assumes nothing.
use mathlib.Core.Path.{◌≡◌, refl, sym, ap, ap₂, ◌∙◌, subst}
use mathlib.Core.Bool.{Bool, true, false, not, ◌&&◌, true≢false}
use mathlib.Core.Logic.{◌≢◌}
use mathlib.Core.List.{List}
use mathlib.Core.Option.{some}
use Prim.Native.Nat.{ℕ, zero, suc, ◌+◌, ◌≤◌}
use native.Mathlib.Omega.{arith}
use lib.Dec.{eqb, leb}
use borrow.Author.Tests.{eq-eqb, ne_eqb}
use Rattle.types.specs.declared.block.BlockState.TheVariants.{Writing, Finished}
use Rattle.types.specs.Peer.{named_peer}
use Rattle.model.specs.Lists.{len, nth, when, filter}
use Rattle.model.specs.Bep3.{bit_of, piece_blocks}
use Rattle.model.specs.State.{Block, DownloadingPiece, Picker, same_block_state, has_peer, with_blocks, with_partials, blocks_in_piece}
use Rattle.model.specs.list.Order.{Draws, Drawing, drawing, no_draw}
use Rattle.model.specs.change.Partials.{partial_of, block_at, blocks_in_state, drop_partial}
use Rattle.model.specs.change.Changes.{set_block, finished_by, finished_peer, all_finished, flush_done, piece_flushed, mark_finished_in}
use Rattle.model.specs.image.WellFormed.{peer_ok}
use Rattle.model.specs.image.Sound.{Sound}
use Rattle.model.proofs.sound.PartialLaws.{find_dl_piece-piece, another, drop_put}
use Rattle.model.proofs.sound.SoundLaws.{well_formed_sound}
use Rattle.memory_records.specs.declared.record.DownloadingPiece.{DownloadingPiece as Record}
use Rattle.memory_records.specs.declared.edits.Edit.TheVariants.{Keep, Remove}
use Rattle.memory_records.specs.Records.{edited}
use Rattle.memory_layout.specs.declared.shape.Shape.{Shape}
use Rattle.memory_layout.specs.Decode.{head_word, record_at, blocks_of, decode, state_from}
use Rattle.memory_layout.specs.Changes.{partial_in}
use Rattle.memory_layout.proofs.BoundsLaws.{blocks_within}
use Rattle.memory_layout.proofs.Meanings.{blocks_of_is, partials_number, blocks_number, passed_is, locked_is, hashing_is, partial_piece_is}
use Rattle.memory_blocks.specs.declared.info.BlockInfo.{BlockInfo}
use Rattle.memory_blocks.specs.Blocks.{block_of, BlockRead}
use Rattle.memory_partials.proofs.MarkLaws.{standing_found}
use Rattle.change_steps.specs.Working.{Went}
use Rattle.change_steps.proofs.WorkLaws.{went_nowhere, went_named, went_then}
use Rattle.change_state.specs.declared.states.Tally.{Tally}
use Rattle.change_blocks.specs.Replacing.{with_block_at, Retallied, TallyAt, TallyBeside, BlockSet}
use Rattle.change_blocks.proofs.TallyLaws.{count_most}
use Rattle.change_blocks.proofs.StandingLaws.{block_there, block_within, set_there}
use Rattle.change_closing.specs.Closing.{HasPartial, PartialBeside, Flushed}
use Rattle.change_closing.proofs.FlushLaws.{flushed_partials}
use Rattle.change_finishes.specs.Finishing.{FinishAt, FinishBeside, FinishedInfo, BlockFinished}
use Rattle.change_finishes.proofs.DoneLaws.{one_finished, set_partials_are, set_many, set_found, set_sound, flush_is, flush_rank}

-- ---- the block
writing_is : (n : ℕ) → same_block_state (state_from n) Writing ≡ eqb n 2
unfolding same_block_state state_from nth
writing_is zero = refl
writing_is (suc zero) = refl
writing_is (suc (suc zero)) = refl
writing_is (suc (suc (suc zero))) = refl
writing_is (suc (suc (suc (suc n)))) = sym (ne_eqb (suc (suc (suc (suc n)))) 2 (λ e. absurd (omega (arith, e))))

has_is : (has : Bool) (peer : ℕ) → has_peer (named_peer has peer) ≡ has
unfolding has_peer
has_is true peer = refl
has_is false peer = refl

state_three : state_from 3 ≡ Finished
unfolding state_from nth
state_three = refl

module _ (b : BlockInfo) (has : Bool) (peer : ℕ) (x : BlockInfo) (es : x.state ≡ 3) (en : x.num_peers ≡ b.num_peers) where
  -- it keeps its peer
  pub info_kept : (eqb b.state 2 && not has) ≡ true → x.has_peer ≡ b.has_peer → x.peer ≡ b.peer → FinishedInfo b has peer x
  unfolding block_of finished_by finished_peer
  info_kept h eh ep = record {
    state = es;
    is = λ y g.
        subst (λ (v : Block). block_of x ≡ finished_by (finished_peer (named_peer has peer) v) v.num_peers) g
        (rw (es, state_three, en, eh, ep, writing_is b.state, has_is has peer, h) refl);
  }

  -- it gets the named one
  pub info_given : (eqb b.state 2 && not has) ≡ false → x.has_peer ≡ has → x.peer ≡ peer → FinishedInfo b has peer x
  unfolding block_of finished_by finished_peer
  info_given h eh ep = record {
    state = es;
    is = λ y g.
        subst (λ (v : Block). block_of x ≡ finished_by (finished_peer (named_peer has peer) v) v.num_peers) g
        (rw (es, state_three, en, eh, ep, writing_is b.state, has_is has peer, h) refl);
  }

pub finish_beside : (s : Shape) (words cells : List ℕ) (i p j : ℕ) (t : Tally) (flags finished : ℕ)
    → FinishBeside s words cells i p j t flags finished → TallyBeside s words cells i p j t
finish_beside s words cells i p j t flags finished b = record { records = b.records; k = b.k; there = b.placed.there }

-- one block more can be counted
pub finish_few : (s : Shape) (words cells : List ℕ) (i p j : ℕ) (t : Tally) (flags finished : ℕ)
    → FinishBeside s words cells i p j t flags finished → finished + 1 ≤ 65535
unfolding blocks_in_state
finish_few s words cells i p j t flags finished b =
    let u = b.placed.there.stands in
    let n = blocks_number s b.records words cells u.works.bounds b.k u.low in
    let m = blocks_within s b.records words cells u.works.bounds (record_at b.records b.k).index in
    let c = count_most (λ (z : Block). same_block_state z.state Finished) (partial_in (decode b.records words cells) b.k).blocks in
    omega (arith, b.placed.counted, c, n, m, u.works.bounds.spans.in_words.sizes.wide)

module _ (s : Shape) (draws : Draws) (i p j : ℕ) (t : Tally) (flags finished : ℕ) (words cells : List ℕ) (used : ℕ) (b : BlockInfo)
    (r : BlockRead s words cells p j b) (has : Bool) (peer : ℕ) where
  finished_test : (n : Bool) → eqb b.state 3 ≡ n → (records : List Record) (k : ℕ) → TallyAt s records words cells i p j t k
      → same_block_state (block_at (partial_in (decode records words cells) k) j).state Finished ≡ n
  unfolding same_block_state
  finished_test n e records k a = rw (← (block_there s words cells i p j t b r records k a).state) e

  -- on disk before
  pub finish_left : b.state ≡ 3 → BlockFinished s draws i p j has peer t flags finished words cells used words cells Keep used
  unfolding mark_finished_in
  finish_left e = record {
    closed = false;
    edits = refl;
    went = λ records k a.
        let q = partial_in (decode records words cells) k in
        went_nowhere s records words cells used (mark_finished_in draws i (some q) j (named_peer has peer)) a.there.stands.works
        (rw (finished_test true (eq-eqb b.state 3 e) records k a.there) refl);
    others = λ f. absurd (true≢false (sym f));
  }

  -- not before
  module _ (o : b.state ≢ 3) (after : Tally) (y : Retallied t b.state 3 after) (x : BlockInfo) (z : FinishedInfo b has peer x)
      (words₁ cells₁ : List ℕ) (next : ℕ) (g : BlockSet s draws i p j x after words cells used words₁ cells₁ next)
      (pk : peer_ok (named_peer has peer) ≡ true) where
    module _ (records : List Record) (k : ℕ) (a : FinishAt s records words cells i p j t flags finished k) where
      abbrev d : Picker
      d = decode records words cells

      abbrev d₁ : Picker
      d₁ = decode records words₁ cells₁

      abbrev q : DownloadingPiece
      q = partial_in (decode records words cells) k

      found : partial_of d i ≡ some q
      found =
          let u = a.there.stands in
          standing_found s records words cells i p k (record { low = u.low; index = u.index; place = u.place }) u.works.bounds
          u.rising

      block_is : block_of x ≡ finished_by (finished_peer (named_peer has peer) (block_at q j)) (block_at q j).num_peers
      block_is = z.is (block_at q j) (block_there s words cells i p j t b r records k a.there).is

      set_went : Went s (set_block draws i q j (block_of x)) records words cells used records words₁ cells₁ next
      set_went =
          set_there s words cells i p j t b r draws used 3 (omega arith) after y x z.state words₁ cells₁ next g records k a.there

      picker_is : d₁ ≡ (set_block draws i q j (block_of x) (drawing used d)).picker
      unfolding drawing
      picker_is = ap (λ (v : Drawing). v.picker) set_went.is

      sound_after : Sound d₁
      sound_after =
          subst Sound (sym (picker_is ∙ ap (λ (u : Block). (set_block draws i q j u (drawing used d)).picker) block_is))
          (set_sound draws i d q j used found (well_formed_sound d a.sound) (named_peer has peer) pk)

      found_after : partial_of d₁ i ≡ some (with_block_at j (block_of x) q)
      found_after = ap (λ (u : Picker). partial_of u i) picker_is ∙ set_found draws i d q j (block_of x) used found

      many_after : head_word words₁ 7 ≡ head_word words 7
      many_after =
          sym (partials_number s records words₁ cells₁ set_went.works.bounds) ∙ ap (λ (u : Picker). len u.partials) picker_is
          ∙ set_many draws i d q j (block_of x) used found ∙ partials_number s records words cells a.there.stands.works.bounds

      pub has_after : HasPartial s i records words₁ cells₁
      has_after = record {
        works = set_went.works;
        rising = sound_after.rising;
        partial = with_block_at j (block_of x) q;
        found = found_after;
      }

      -- the code's test is the definition's
      blocks_are : t.blocks ≡ blocks_in_piece d₁ (with_block_at j (block_of x) q).piece
      unfolding with_block_at with_blocks blocks_of partial_of
      blocks_are =
          let u = a.there.stands in
          let w = set_went.words_kept in
          a.there.tally.blocks ∙ blocks_number s records words cells u.works.bounds k u.low
          ∙ ap₂ (λ (m n : ℕ). piece_blocks m n (record_at records k).index) (sym w.total_size) (sym w.piece_size)
          ∙ blocks_of_is records words₁ cells₁ (record_at records k).index
          ∙ ap (blocks_in_piece d₁) (sym (partial_piece_is s records words cells u.works.bounds k u.low))

      finished_is : finished + 1 ≡ blocks_in_state Finished (with_block_at j (block_of x) q)
      unfolding block_of state_from nth same_block_state
      finished_is =
          ap (λ (n : ℕ). n + 1) a.counted
          ∙ sym (one_finished q j (block_of x) (block_within s words cells i p j t records k a.there)
          (finished_test false (ne_eqb b.state 3 o) records k a.there) (rw z.state refl))

      pub done_is : (done : Bool)
          → done ≡ (leb t.blocks (finished + 1) && (bit_of flags 0 && (not (bit_of flags 2) && not (bit_of flags 1))))
          → done ≡ (all_finished d₁ (with_block_at j (block_of x) q) && (q.passed_hash_check && (not q.hashing && not q.locked)))
      unfolding all_finished
      done_is done e =
          let u = a.there.stands in
          let m = u.works.bounds in
          e ∙ rw (
            ← blocks_are,
            ← finished_is,
            passed_is s records words cells m k u.low,
            hashing_is s records words cells m k u.low,
            locked_is s records words cells m k u.low,
            a.flagged,
          ) refl

      -- the whole step, by what the flush makes of the picker
      named : (h : Picker → Picker) → flush_done i d₁ ≡ h d₁
          → no_draw h (set_block draws i q j (block_of x) (drawing used d))
          ≡ mark_finished_in draws i (some q) j (named_peer has peer) (drawing used d)
      unfolding mark_finished_in no_draw drawing
      named h e =
          rw (finished_test false (ne_eqb b.state 3 o) records k a.there)
          (ap (drawing _) (sym (subst (λ (u : Picker). flush_done i u ≡ h u) picker_is e))
          ∙ ap (λ (u : Block). no_draw (flush_done i) (set_block draws i q j u (drawing used d))) block_is)

      kept_went : false ≡ (leb t.blocks (finished + 1) && (bit_of flags 0 && (not (bit_of flags 2) && not (bit_of flags 1))))
          → Went s (mark_finished_in draws i (some q) j (named_peer has peer)) records words cells used records words₁ cells₁ next
      unfolding no_draw drawing when with_block_at with_blocks
      kept_went e =
          went_named s records words cells used records words₁ cells₁ next (set_block draws i q j (block_of x))
          (mark_finished_in draws i (some q) j (named_peer has peer))
          (named (λ u. u) (flush_is i d₁ (with_block_at j (block_of x) q) false found_after (done_is false e))) set_went

      flushed_went : true ≡ (leb t.blocks (finished + 1) && (bit_of flags 0 && (not (bit_of flags 2) && not (bit_of flags 1))))
          → (words₂ cells₂ : List ℕ) → Flushed s i words₁ cells₁ words₂ cells₂
          → Went s (mark_finished_in draws i (some q) j (named_peer has peer)) records words cells used
          (edited (head_word words 7) (Remove i) records) words₂ cells₂ next
      unfolding when with_block_at with_blocks
      flushed_went e words₂ cells₂ w =
          let n = flush_rank i d₁ (with_block_at j (block_of x) q) sound_after found_after (done_is true e) in
          subst (λ (m : ℕ). Went s (mark_finished_in draws i (some q) j (named_peer has peer)) records words cells used
          (edited m (Remove i) records) words₂ cells₂ next) many_after
          (went_named s records words cells used (edited (head_word words₁ 7) (Remove i) records) words₂ cells₂ next
          (λ v. no_draw (piece_flushed i) (set_block draws i q j (block_of x) v)) (mark_finished_in draws i (some q) j (named_peer has peer))
          (named (piece_flushed i) (flush_is i d₁ (with_block_at j (block_of x) q) true found_after (done_is true e)))
          (went_then s records words cells used records words₁ cells₁ next (set_block draws i q j (block_of x)) (no_draw (piece_flushed i))
          set_went (edited (head_word words₁ 7) (Remove i) records) words₂ cells₂ next (w.went records has_after n next)))

      -- the other partials after the flush
      flushed_others : true ≡ (leb t.blocks (finished + 1) && (bit_of flags 0 && (not (bit_of flags 2) && not (bit_of flags 1))))
          → (mark_finished_in draws i (some q) j (named_peer has peer) (drawing used d)).picker.partials ≡ (drop_partial i d).partials
      unfolding no_draw drawing when with_block_at with_blocks drop_partial with_partials partial_of
      flushed_others e =
          ap (λ (v : Drawing). v.picker.partials)
          (sym (named (piece_flushed i) (flush_is i d₁ (with_block_at j (block_of x) q) true found_after (done_is true e))))
          ∙ flushed_partials i (set_block draws i q j (block_of x) (drawing used d)).picker
          ∙ ap (filter (another i)) (set_partials_are draws i d q j (block_of x) used found)
          ∙ drop_put i (with_block_at j (block_of x) q) d.partials (find_dl_piece-piece i d.partials q found)

    pub flush_asks : FinishBeside s words cells i p j t flags finished → PartialBeside s i words₁ cells₁
    flush_asks a = record { records = a.records; has = has_after a.records a.k a.placed }

    pub finish_kept : false ≡ (leb t.blocks (finished + 1) && (bit_of flags 0 && (not (bit_of flags 2) && not (bit_of flags 1))))
        → BlockFinished s draws i p j has peer t flags finished words cells used words₁ cells₁ Keep next
    finish_kept e = record {
      closed = false;
      edits = refl;
      went = λ records k a. kept_went records k a e;
      others = λ f. absurd (true≢false (sym f));
    }

    pub finish_flushed : true ≡ (leb t.blocks (finished + 1) && (bit_of flags 0 && (not (bit_of flags 2) && not (bit_of flags 1))))
        → (n : ℕ) → n ≡ i → (words₂ cells₂ : List ℕ) → Flushed s i words₁ cells₁ words₂ cells₂
        → BlockFinished s draws i p j has peer t flags finished words cells used words₂ cells₂ (Remove n) next
    finish_flushed e n en words₂ cells₂ w = record {
      closed = true;
      edits = ap Remove en;
      went = λ records k a.
          subst (λ (m : ℕ). Went s (mark_finished_in draws i (some (partial_in (decode records words cells) k)) j (named_peer has peer))
          records words cells used (edited (head_word words 7) (Remove m) records) words₂ cells₂ next) (sym en)
          (flushed_went records k a e words₂ cells₂ w);
      others = λ f records k a. flushed_others records k a e;
    }
