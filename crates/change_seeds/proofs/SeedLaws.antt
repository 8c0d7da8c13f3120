-- What the stores of each change come to: the definition's picker, with the ranks held again. Assumes nothing.
use mathlib.Core.Path.{◌≡◌, refl, sym, ap, ◌∙◌}
use mathlib.Core.Logic.{◌≢◌}
use mathlib.Core.Bool.{Bool, true, false, cond}
use mathlib.Core.List.{List}
use Prim.Native.Nat.{ℕ, suc, ◌+◌, ◌-◌, ◌≤◌, ◌<◌}
use native.Mathlib.Omega.{arith}
use lib.Dec.{eqb}
use borrow.Author.Tests.{eqb-false, ne_eqb}
use Rattle.model.specs.Lists.{when}
use Rattle.model.specs.State.{max_peers, piece_at, pieces_in, with_seeds, mark_dirty}
use Rattle.model.specs.list.Order.{rank}
use Rattle.model.specs.change.Changes.{inc_peer_count, dec_peer_count, all_pieces, break_one_seed, inc_refcount_all, dec_refcount_all}
use Rattle.model.proofs.list.RankLaws.{rank-seeds}
use Rattle.model.proofs.sound.SoundLaws.{well_formed_sound}
use Rattle.model.proofs.sound.SoundBody.{sound_body, head_in, piece_in}
use Rattle.memory_records.specs.declared.record.DownloadingPiece.{DownloadingPiece as Record}
use Rattle.memory_layout.specs.declared.shape.Shape.{Shape}
use Rattle.memory_layout.specs.Decode.{head_word, pieces_on, piece_held, pieces_held, decode}
use Rattle.memory_layout.specs.Stores.{CellsBecame}
use Rattle.memory_layout.specs.Standing.{StandsBeside, ChangeMade}
use Rattle.memory_layout.proofs.TableLaws.{tabulate-len}
use Rattle.memory_layout.proofs.Meanings.{peer_count_is}
use Rattle.memory_layout.proofs.BoundsLaws.{words_none, words_again, both_words, both_cells, both_again}
use Rattle.memory_layout.proofs.StandingLaws.{ranks_again, both_made, made_named}
use Rattle.memory_fields.specs.Reading.{HeadSays}
use Rattle.memory_fields.specs.Storing.{WordsStored, DirtyMarked}
use Rattle.change_seeds.specs.Seeds.{CountsFit, DirtyWhere}

-- ---- ranges
module _ (s : Shape) (words cells : List ℕ) (t : StandsBeside s words cells) where
  -- the seeds
  pub seeds_few : head_word words 2 ≤ max_peers
  seeds_few =
      let d = decode t.records words cells in
      (head_in d (sound_body d (well_formed_sound d t.stands.sound)).frame.head).seeds

  -- the counts
  pub counts_fit : CountsFit s cells
  unfolding pieces_in pieces_held
  counts_fit i h =
      let d = decode t.records words cells in
      let many = tabulate-len (pieces_on words) (piece_held words cells (pieces_on words)) in
      let l : i < pieces_in d = omega (arith, many, t.stands.bounds.pieces) in
      let q = (piece_in d i (piece_at d i) ((sound_body d (well_formed_sound d t.stands.sound)).frame.piece i l)).peers in
      omega (arith, q, peer_count_is s t.records words cells t.stands.bounds i h)

-- ---- dirty or not
-- marked
pub dirty_yes : (s : Shape) (words words' : List ℕ) → DirtyMarked s words words' → DirtyWhere s true words words'
unfolding when
dirty_yes s words words' m = record { became = m.became; ranks = λ r h. m.ranks r }

-- as it was
pub dirty_no : (s : Shape) (words : List ℕ) → DirtyWhere s false words words
unfolding when
dirty_no s words = record { became = words_none s words; ranks = λ r h. h refl }

-- ---- seeds replaced
module _ (s : Shape) (words words₁ words₂ cells : List ℕ) (n v : ℕ) (test : Bool) (read : HeadSays words (λ d. d.seeds) n)
    (stored : WordsStored s (with_seeds v) words words₁) (marked : DirtyWhere s test words₁ words₂)
    (some : test ≡ false → (1 ≤ n) × (1 ≤ v)) where
  -- the list is not made dirty: no piece has another rank
  same_ranks : (records : List Record) → test ≡ false → (i : ℕ)
      → rank (when test mark_dirty (with_seeds v (decode records words cells))) i ≡ rank (decode records words cells) i
  unfolding when
  same_ranks records e i =
      let d = decode records words cells in
      let h = some e in
      ap (λ (t : Bool). rank (when t mark_dirty (with_seeds v d)) i) e
      ∙ rank-seeds v d i h.1 (omega (arith, h.0, read.is records cells))

  -- another number of them, and a list that is dirty unless there are some before and after
  seeds_made : ChangeMade s (λ d. when test mark_dirty (with_seeds v d)) words words₂ cells cells
  seeds_made =
      both_made s (λ d. when test mark_dirty (with_seeds v d)) words words₂ cells cells
      (both_words s (λ d. when test mark_dirty (with_seeds v d)) words words₂ cells
      (words_again s (with_seeds v) (when test mark_dirty) words words₁ words₂ stored.became marked.became))
      (λ records t.
      let after = when test mark_dirty (with_seeds v (decode records words cells)) in
      marked.ranks (rank after) (λ e. ranks_again s records words cells words₁ after t stored.list (same_ranks records e)))

-- ---- the changes
module _ (s : Shape) (words words₁ words₂ cells : List ℕ) (n : ℕ) (read : HeadSays words (λ d. d.seeds) n) where
  -- a seed more
  pub seed_came : WordsStored s (with_seeds (n + 1)) words words₁ → DirtyWhere s (eqb n 0) words₁ words₂
      → ChangeMade s inc_refcount_all words words₂ cells cells
  unfolding inc_refcount_all
  seed_came stored marked =
      made_named s (λ d. when (eqb n 0) mark_dirty (with_seeds (n + 1) d)) words words₂ cells cells inc_refcount_all
      (λ records t.
      let e : n + 1 ≡ suc n = omega arith in
      rw e (ap (λ (m : ℕ). when (eqb m 0) mark_dirty (with_seeds (suc m) (decode records words cells))) (read.is records cells)))
      (seeds_made s words words₁ words₂ cells n (n + 1) (eqb n 0) read stored marked (λ e.
      let f : ¬ (n ≡ 0) = eqb-false n 0 e in
      (omega arith, omega arith)))

  -- a seed less
  pub seed_went : n ≢ 0 → WordsStored s (with_seeds (n - 1)) words words₁ → DirtyWhere s (eqb n 1) words₁ words₂
      → ChangeMade s dec_refcount_all words words₂ cells cells
  unfolding dec_refcount_all
  seed_went h stored marked =
      made_named s (λ d. when (eqb n 1) mark_dirty (with_seeds (n - 1) d)) words words₂ cells cells dec_refcount_all
      (λ records t.
      let d = decode records words cells in
      ap (λ (b : Bool). cond b (mark_dirty (all_pieces dec_peer_count d)) (when (eqb n 1) mark_dirty (with_seeds (n - 1) d))) (sym (ne_eqb n 0 h))
      ∙ ap (λ (m : ℕ). cond (eqb m 0) (mark_dirty (all_pieces dec_peer_count d)) (when (eqb m 1) mark_dirty (with_seeds (m - 1) d)))
      (read.is records cells))
      (seeds_made s words words₁ words₂ cells n (n - 1) (eqb n 1) read stored marked (λ e.
      let f : ¬ (n ≡ 1) = eqb-false n 1 e in
      (omega arith, omega arith)))

module _ (s : Shape) (words words' cells cells' : List ℕ) (n : ℕ) (read : HeadSays words (λ d. d.seeds) n) where
  -- a peer of each piece less, where there is no seed
  pub peers_went : n ≡ 0 → CellsBecame s (all_pieces dec_peer_count) cells cells' → DirtyMarked s words words'
      → ChangeMade s dec_refcount_all words words' cells cells'
  unfolding dec_refcount_all
  peers_went h lowered marked =
      made_named s (λ d. mark_dirty (all_pieces dec_peer_count d)) words words' cells cells' dec_refcount_all
      (λ records t.
      let d = decode records words cells in
      ap (λ (m : ℕ). cond (eqb m 0) (mark_dirty (all_pieces dec_peer_count d)) (when (eqb m 1) mark_dirty (with_seeds (m - 1) d)))
      (sym h ∙ read.is records cells))
      (both_made s (λ d. mark_dirty (all_pieces dec_peer_count d)) words words' cells cells'
      (both_again s (all_pieces dec_peer_count) mark_dirty words words words' cells cells' cells'
      (both_cells s (all_pieces dec_peer_count) words cells cells' lowered) (both_words s mark_dirty words words' cells' marked.became))
      (λ records t. marked.ranks (rank (mark_dirty (all_pieces dec_peer_count (decode records words cells))))))

  -- a seed that is one of each piece's peers from here on
  pub seed_broken : (words₁ : List ℕ) → WordsStored s (with_seeds (n - 1)) words words₁ → CellsBecame s (all_pieces inc_peer_count) cells cells'
      → DirtyMarked s words₁ words'
      → ChangeMade s break_one_seed words words' cells cells'
  unfolding break_one_seed
  seed_broken words₁ stored raised marked =
      made_named s (λ d. mark_dirty (all_pieces inc_peer_count (with_seeds (n - 1) d))) words words' cells cells' break_one_seed
      (λ records t.
      ap (λ (m : ℕ). mark_dirty (all_pieces inc_peer_count (with_seeds (m - 1) (decode records words cells)))) (read.is records cells))
      (both_made s (λ d. mark_dirty (all_pieces inc_peer_count (with_seeds (n - 1) d))) words words' cells cells'
      (both_again s (λ d. all_pieces inc_peer_count (with_seeds (n - 1) d)) mark_dirty words words₁ words' cells cells' cells'
      (both_again s (with_seeds (n - 1)) (all_pieces inc_peer_count) words words₁ words₁ cells cells cells'
      (both_words s (with_seeds (n - 1)) words words₁ cells stored.became)
      (both_cells s (all_pieces inc_peer_count) words₁ cells cells' raised)) (both_words s mark_dirty words₁ words' cells' marked.became))
      (λ records t. marked.ranks (rank (mark_dirty (all_pieces inc_peer_count (with_seeds (n - 1) (decode records words cells)))))))
