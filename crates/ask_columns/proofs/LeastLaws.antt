-- The least copies and how many have more, one piece after another, and what they are of the picker. Assumes nothing.
use mathlib.Core.Path.{◌≡◌, refl, sym, ap, ap₂, ◌∙◌}
use mathlib.Core.Bool.{Bool}
use mathlib.Core.List.{List, [], ◌∷◌, ◌++◌}
use Prim.Native.Nat.{ℕ, zero, suc, min, ◌+◌, ◌*◌, ◌/◌, ◌≤◌, ◌<◌}
use native.Mathlib.Decide.{dec_le, ℕ_discrete}
use native.Mathlib.Omega.{arith}
use lib.Dec.{ltb}
use borrow.Author.Tests.{eq-eqb, ne_eqb, lt-ltb, le-leb, lt-leb}
use Rattle.model.specs.Lists.{bit, least, count, len}
use Rattle.model.specs.State.{Piece, Picker, pieces_in}
use Rattle.model.specs.ask.Questions.{reply_picker, plain, distributed_copies, copies, lowest, max_peer_count, distributed}
use Rattle.model.proofs.base.Counts.{count_append, count_le}
use Rattle.memory_layout.specs.declared.shape.Shape.{Shape}
use Rattle.memory_layout.specs.Tables.{tabulate}
use Rattle.memory_layout.specs.Decode.{head_word, piece_cell, yes?, piece_held, pieces_held}
use Rattle.memory_layout.proofs.TableLaws.{tabulate-len, tabulate_more}
use Rattle.memory_layout.proofs.BoundsLaws.{decode_at_lem}
use Rattle.memory_layout.specs.Standing.{StandsBeside}
use Rattle.memory_layout.proofs.Meanings.{peer_count_is}
use Rattle.ask_picker.specs.Telling.{BothSay}
use Rattle.ask_picker.proofs.AskedLaws.{peers_few}
use Rattle.ask_picker.proofs.TableParts.{tabulate_split}
use Rattle.ask_columns.specs.declared.copies.Least.{Least}
use Rattle.ask_columns.specs.declared.copies.DistributedCopies.{DistributedCopies}
use Rattle.ask_columns.specs.Copies.{copies_held, copies_from, least_of, FewCopies, LeastIn, copies_reply}

-- ---- the lesser of two
pub least_lt : (a b : ℕ) → b < a → least a b ≡ b
unfolding least
least_lt a b h = rw (lt-leb a b h)

pub least_le : (a b : ℕ) → a ≤ b → least a b ≡ a
unfolding least
least_le a b h = rw (le-leb a b h)

pub least_min : (a b : ℕ) → min a b ≡ least a b
least_min a b = elim (dec_le a b) [
  | yes h ↦ omega (arith, least_le a b h)
  | no h ↦ omega (arith, least_lt a b (omega (arith, h)))
]

least_low : (a b : ℕ) → (least a b ≤ a) × (least a b ≤ b)
least_low a b = elim (dec_le a b) [
  | yes h ↦ (omega (arith, least_le a b h), omega (arith, least_le a b h))
  | no h ↦ (let g : b < a = omega (arith, h) in (omega (arith, least_lt a b g), omega (arith, least_lt a b g)))
]

-- ---- of a list
least_append : (n : ℕ) (xs ys : List ℕ) → least_of n (xs ++ ys) ≡ least_of (least_of n xs) ys
unfolding least_of
least_append n [] ys = refl
least_append n (x ∷ xs) ys = least_append (least n x) xs ys

least_under : (n : ℕ) (xs : List ℕ) → least_of n xs ≤ n
unfolding least_of
least_under n [] = omega arith
least_under n (x ∷ xs) = omega (arith, least_under (least n x) xs, (least_low n x).0)

-- all have more than what is below the least
above_all : (c n : ℕ) (xs : List ℕ) → c < least_of n xs → count (ltb c) xs ≡ len xs
unfolding least_of count len
above_all c n [] h = refl
above_all c n (x ∷ xs) h =
    let l : c < x = omega (arith, least_under (least n x) xs, (least_low n x).1) in
    omega (arith, ap bit (lt-ltb c x l), above_all c (least n x) xs h)

-- ---- of one piece
module _ (cells : List ℕ) (n : ℕ) (few : FewCopies cells n) (i : ℕ) (h : i < n) where
  -- what is 0 or 1 is its own bit
  flag_bit : (x : ℕ) → x ≤ 1 → x ≡ bit (yes? x)
  unfolding yes?
  flag_bit x l = elim (ℕ_discrete x 1) [
    | yes e ↦ e ∙ sym (ap bit (eq-eqb x 1 e))
    | no d ↦ omega (arith, d, ap bit (ne_eqb x 1 d))
  ]

  -- the two cells added
  pub copies_sum : (peers flushed : ℕ) → peers ≡ piece_cell cells n 0 i → flushed ≡ piece_cell cells n 3 i
      → peers + flushed ≡ copies_held cells n i
  unfolding copies_held
  copies_sum peers flushed e o =
      ap₂ (λ (x y : ℕ). x + y) e (o ∙ flag_bit (piece_cell cells n 3 i) (few.flushed i h))

  -- which have room
  pub copies_low : (peers flushed : ℕ) → peers ≡ piece_cell cells n 0 i → flushed ≡ piece_cell cells n 3 i → peers + flushed < 65536
  copies_low peers flushed e o = omega (arith, e, o, few.peers i h, few.flushed i h)

-- ---- a stretch
module _ (cells : List ℕ) (n i : ℕ) where
  stretch_more : (k : ℕ) → copies_from cells n i (k + 1) ≡ copies_from cells n i k ++ (copies_held cells n (i + k) ∷ [])
  unfolding copies_from
  stretch_more k =
      let e : k + 1 ≡ suc k = omega arith in
      ap (λ (m : ℕ). tabulate m (λ j. copies_held cells n (i + j))) e ∙ tabulate_more k (λ j. copies_held cells n (i + j))

  pub stretch_len : (k : ℕ) → len (copies_from cells n i k) ≡ k
  unfolding copies_from
  stretch_len k = tabulate-len k (λ j. copies_held cells n (i + j))

  -- one piece more
  pub least_next : (start k x c : ℕ) → x ≡ least_of start (copies_from cells n i k) → c ≡ copies_held cells n (i + k)
      → least x c ≡ least_of start (copies_from cells n i (k + 1))
  unfolding least_of
  least_next start k x c e o =
      ap₂ least e o ∙ sym (ap (least_of start) (stretch_more k) ∙ least_append start (copies_from cells n i k) (copies_held cells n (i + k) ∷ []))

  pub more_next : (l k x c : ℕ) → x ≡ count (ltb l) (copies_from cells n i k) → c ≡ copies_held cells n (i + k)
      → x + bit (ltb l c) ≡ count (ltb l) (copies_from cells n i (k + 1))
  unfolding count
  more_next l k x c e o =
      let m = ap (count (ltb l)) (stretch_more k) ∙ count_append (ltb l) (copies_from cells n i k) (copies_held cells n (i + k) ∷ []) in
      omega (arith, m, e, ap (λ (y : ℕ). bit (ltb l y)) o)

  -- no more than there are
  pub more_few : (l k : ℕ) → count (ltb l) (copies_from cells n i k) ≤ k
  unfolding len
  more_few l k = omega (arith, count_le (ltb l) (copies_from cells n i k), stretch_len k)

-- ---- the pass
module _ (cells : List ℕ) (n : ℕ) where
  pub least_start : LeastIn cells n 0 (record { copies = 65535; more = 0 })
  unfolding tabulate least_of count
  least_start = record { copies = refl; more = refl }

  -- no more than there are
  pub least_few : (i : ℕ) (r : Least) → LeastIn cells n i r → r.more ≤ i
  unfolding len
  least_few i r g =
      let f = copies_held cells n in
      omega (arith, g.more, count_le (ltb r.copies) (tabulate i f), tabulate-len i f)

  -- no more than where the search starts
  pub least_most : (i : ℕ) (r : Least) → LeastIn cells n i r → r.copies ≤ 65535
  least_most i r g = omega (arith, g.copies, least_under max_peer_count (tabulate i (copies_held cells n)))

  module _ (i many : ℕ) (at : Least) (g : LeastIn cells n i at) (low a : ℕ) (e : low ≡ least_of at.copies (copies_from cells n i many))
      (o : a ≡ count (ltb low) (copies_from cells n i many)) where
    whole : tabulate (i + many) (copies_held cells n) ≡ tabulate i (copies_held cells n) ++ copies_from cells n i many
    unfolding copies_from
    whole = tabulate_split i many (copies_held cells n)

    lowest_whole : low ≡ least_of max_peer_count (tabulate (i + many) (copies_held cells n))
    lowest_whole =
        let f = copies_held cells n in
        e ∙ ap (λ (x : ℕ). least_of x (copies_from cells n i many)) g.copies
        ∙ sym (ap (least_of max_peer_count) whole ∙ least_append max_peer_count (tabulate i f) (copies_from cells n i many))

    more_whole : count (ltb low) (tabulate (i + many) (copies_held cells n)) ≡ count (ltb low) (tabulate i (copies_held cells n)) + a
    more_whole =
        let f = copies_held cells n in
        ap (count (ltb low)) whole ∙ count_append (ltb low) (tabulate i f) (copies_from cells n i many)
        ∙ ap (λ (x : ℕ). count (ltb low) (tabulate i f) + x) (sym o)

    -- a new least: all before it have more
    pub lowered_new : low < at.copies → LeastIn cells n (i + many) (record { copies = low; more = i + a })
    lowered_new h =
        let f = copies_held cells n in
        record {
          copies = lowest_whole;
          more = omega (
            arith,
            more_whole,
            above_all low max_peer_count (tabulate i f) (omega (arith, g.copies)),
            tabulate-len i f,
          );
        }

    -- the same least
    pub lowered_same : at.copies ≤ low → LeastIn cells n (i + many) (record { copies = low; more = at.more + a })
    lowered_same h =
        let f = copies_held cells n in
        let q : at.copies ≡ low = omega (arith, e, least_under at.copies (copies_from cells n i many)) in
        record {
          copies = lowest_whole;
          more = omega (arith, more_whole, g.more, ap (λ (x : ℕ). count (ltb x) (tabulate i f)) q);
        }

-- ---- of the picker
module _ (words cells : List ℕ) (n : ℕ) where
  lowest_table : (m k : ℕ) (g : ℕ → Piece) (f : ℕ → ℕ) → ((i : ℕ) → copies (g i) ≡ f i) → lowest m (tabulate k g) ≡ least_of m (tabulate k f)
  unfolding lowest least_of tabulate
  lowest_table m zero g f e = refl
  lowest_table m (suc k) g f e =
      ap (λ (x : ℕ). lowest (least m x) (tabulate k (λ i. g (suc i)))) (e 0)
      ∙ lowest_table (least m (f 0)) k (λ i. g (suc i)) (λ i. f (suc i)) (λ i. e (suc i))

  count_table : (t : ℕ → Bool) (k : ℕ) (g : ℕ → Piece) (f : ℕ → ℕ) → ((i : ℕ) → copies (g i) ≡ f i)
      → count (λ p. t (copies p)) (tabulate k g) ≡ count t (tabulate k f)
  unfolding count tabulate
  count_table t zero g f e = refl
  count_table t (suc k) g f e =
      ap₂ (λ (x y : ℕ). bit (t x) + y) (e 0) (count_table t k (λ i. g (suc i)) (λ i. f (suc i)) (λ i. e (suc i)))

  copies_held_lem : (i : ℕ) → copies (piece_held words cells n i) ≡ copies_held cells n i
  unfolding copies piece_held copies_held
  copies_held_lem i = refl

-- the least copies with the seeds, and thousandths of those that have more
pub copies_told : (s : Shape) (words cells : List ℕ) (at : Least) → LeastIn cells s.pieces s.pieces at → (r : DistributedCopies)
    → r.integer ≡ at.copies + head_word words 2 → r.fraction ≡ at.more * 1000 / s.pieces
    → BothSay s words cells (λ d. reply_picker d distributed_copies) (copies_reply r)
unfolding copies_reply reply_picker distributed pieces_held pieces_in
copies_told s words cells at g r a b = record {
  is = λ records q.
      let n = s.pieces in
      let p = piece_held words cells n in
      let f = copies_held cells n in
      let k = g.copies ∙ sym (lowest_table words cells n max_peer_count n p f (copies_held_lem words cells n)) in
      let m = g.more ∙ sym (count_table words cells n (ltb at.copies) n p f (copies_held_lem words cells n))
      ∙ ap (λ (x : ℕ). count (λ y. ltb x (copies y)) (tabulate n p)) k in
      ap₂ (λ (x y : ℕ). plain (x ∷ y ∷ [])) (a ∙ ap (λ (x : ℕ). x + head_word words 2) k)
      (b ∙ ap₂ (λ (x y : ℕ). x * 1000 / y) m (sym (tabulate-len n p)))
      ∙ ap (λ (d : Picker). reply_picker d distributed_copies) (sym (decode_at_lem s records words cells q));
}

-- ---- of a picker that stands
pub few_copies : (s : Shape) (words cells : List ℕ) → StandsBeside s words cells → FewCopies cells s.pieces
few_copies s words cells g = record {
  peers = λ i h. omega (
    arith,
    peers_few s g.records words cells g.stands i h,
    peer_count_is s g.records words cells g.stands.bounds i h,
  );
  flushed = g.stands.plain.pieces.flushed;
}
