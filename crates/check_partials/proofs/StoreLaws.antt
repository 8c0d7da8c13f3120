-- The counts of records one after another, each in its row of three columns. Assumes nothing.
use mathlib.Core.Path.{◌≡◌, sym, ap, subst, ◌∙◌}
use mathlib.Core.Logic.{◌≢◌}
use mathlib.Core.List.{List}
use Prim.Native.Nat.{ℕ, ◌+◌, ◌<◌}
use native.Mathlib.Decide.{ℕ_discrete}
use native.Mathlib.Omega.{arith}
use lib.ListN.{length, get_or, set, length-set}
use lib.Seq.{get_or-set_same, get_or-set_other}
use Rattle.memory_records.specs.declared.record.DownloadingPiece.{DownloadingPiece as Record}
use Rattle.memory_layout.specs.Decode.{record_at, blocks_of}
use Rattle.check_blocks.specs.declared.blocks.Counts.{Counts}
use Rattle.check_blocks.specs.Rows.{in_state, Tallied}
use Rattle.check_blocks.specs.Rows.{counts_put}
use Rattle.check_partials.specs.Records.{index_at, place_at, Columns}

pub length_put : (counts : List ℕ) (k : ℕ) (c : Counts) → length (counts_put counts k c) ≡ length counts
unfolding counts_put
length_put counts k c =
    length-set (set (set counts k c.requested) (512 + k) c.writing) (1024 + k) c.finished
    ∙ length-set (set counts k c.requested) (512 + k) c.writing
    ∙ length-set counts k c.requested

module _ (counts : List ℕ) (k : ℕ) (c : Counts) (h : k < 512) (long : length counts ≡ 1536) where
  abbrev one : List ℕ
  one = set counts k c.requested

  abbrev two : List ℕ
  two = set one (512 + k) c.writing

  -- numbers of other rows stay
  put_other : (i : ℕ) → i ≢ 1024 + k → i ≢ 512 + k → i ≢ k → get_or (counts_put counts k c) i 0 ≡ get_or counts i 0
  unfolding counts_put
  put_other i x y z =
      get_or-set_other two (1024 + k) i c.finished 0 x ∙ get_or-set_other one (512 + k) i c.writing 0 y
      ∙ get_or-set_other counts k i c.requested 0 z

  put_requested : get_or (counts_put counts k c) k 0 ≡ c.requested
  unfolding counts_put
  put_requested =
      get_or-set_other two (1024 + k) k c.finished 0 (λ e. omega (arith, e))
      ∙ get_or-set_other one (512 + k) k c.writing 0 (λ e. omega (arith, e))
      ∙ get_or-set_same counts k c.requested 0 (omega (arith, h, long))

  put_writing : get_or (counts_put counts k c) (512 + k) 0 ≡ c.writing
  unfolding counts_put
  put_writing =
      get_or-set_other two (1024 + k) (512 + k) c.finished 0 (λ e. omega (arith, e))
      ∙ get_or-set_same one (512 + k) c.writing 0 (omega (arith, h, long, length-set counts k c.requested))

  put_finished : get_or (counts_put counts k c) (1024 + k) 0 ≡ c.finished
  unfolding counts_put
  put_finished =
      get_or-set_same two (1024 + k) c.finished 0 (omega (
        arith,
        h,
        long,
        length-set counts k c.requested,
        length-set one (512 + k) c.writing,
      ))

  -- of one row more
  module _ (rs : List Record) (words cells : List ℕ) (n b : ℕ) (d : Record) (ed : d ≡ record_at rs k)
      (t : Tallied cells n b d.info_idx (blocks_of words d.index) c) (g : Columns rs words cells n b k counts) where
    due : (q : ℕ) → in_state cells n b d.info_idx q (blocks_of words d.index)
        ≡ in_state cells n b (place_at rs k) q (blocks_of words (index_at rs k))
    due q = ap (λ (x : Record). in_state cells n b x.info_idx q (blocks_of words x.index)) ed

    pub columns_next : Columns rs words cells n b (k + 1) (counts_put counts k c)
    columns_next =
        record {
          requested = λ j l. elim (ℕ_discrete j k) [
            | yes e ↦ subst (λ (i : ℕ). get_or (counts_put counts k c) i 0
                ≡ in_state cells n b (place_at rs i) 1 (blocks_of words (index_at rs i)))
                (sym e) (put_requested ∙ t.requested ∙ due 1)
            | no m ↦ put_other j (omega arith) (omega arith) m ∙ g.requested j (omega arith)
          ];
          writing = λ j l. elim (ℕ_discrete j k) [
            | yes e ↦ subst (λ (i : ℕ). get_or (counts_put counts k c) (512 + i) 0
                ≡ in_state cells n b (place_at rs i) 2 (blocks_of words (index_at rs i)))
                (sym e) (put_writing ∙ t.writing ∙ due 2)
            | no m ↦ put_other (512 + j) (omega arith) (λ e. m (omega (arith, e))) (omega arith) ∙ g.writing j (omega arith)
          ];
          finished = λ j l. elim (ℕ_discrete j k) [
            | yes e ↦ subst (λ (i : ℕ). get_or (counts_put counts k c) (1024 + i) 0
                ≡ in_state cells n b (place_at rs i) 3 (blocks_of words (index_at rs i)))
                (sym e) (put_finished ∙ t.finished ∙ due 3)
            | no m ↦ put_other (1024 + j) (λ e. m (omega (arith, e))) (omega arith) (omega arith) ∙ g.finished j (omega arith)
          ];
        }

    -- the same of what a call leaves
    pub columns_turn : (after : List ℕ) → after ≡ counts_put counts k c
        → (length after ≡ 1536) × Columns rs words cells n b (k + 1) after
    columns_turn after e =
        (ap length e ∙ length_put counts k c ∙ long, subst (Columns rs words cells n b (k + 1)) (sym e) columns_next)

pub columns_end : (rs : List Record) (words cells : List ℕ) (n b k m : ℕ) (counts : List ℕ) → Columns rs words cells n b k counts → k ≡ m
    → Columns rs words cells n b m counts
columns_end rs words cells n b k m counts g e = subst (λ (i : ℕ). Columns rs words cells n b i counts) e g

pub columns_start : (rs : List Record) (words cells : List ℕ) (n b : ℕ) (counts : List ℕ) → Columns rs words cells n b 0 counts
columns_start rs words cells n b counts =
    record {
      requested = λ k l. absurd (omega (arith, l));
      writing = λ k l. absurd (omega (arith, l));
      finished = λ k l. absurd (omega (arith, l));
    }
