-- Records written one after another: a row of words put in, the records so far, and what they tell. Assumes nothing.
use mathlib.Core.Path.{◌≡◌, refl, ap, ◌∙◌}
use mathlib.Core.Bool.{Bool, true, cond}
use mathlib.Core.List.{List, [], ◌∷◌, ◌++◌}
use mathlib.Core.Option.{Option, none}
use Prim.Native.Nat.{ℕ, zero, suc, ◌+◌, ◌*◌, ◌<◌}
use native.Mathlib.Decide.{ℕ_discrete}
use native.Mathlib.Omega.{arith}
use lib.ListN.{length, get_or, set, replicate, length-set}
use lib.Seq.{get_or-set_same, get_or-set_other}
use Rattle.model.specs.Lists.{every, each, concat_map}
use Rattle.model.specs.ask.Questions.{numbers, stale_list}
use Rattle.memory_layout.specs.Offsets.{cell}
use Rattle.memory_layout.specs.Tables.{tabulate}
use Rattle.memory_layout.proofs.TableLaws.{tabulate_ext}
use Rattle.memory_layout.proofs.OffsetLaws.{cell_below}
use Rattle.ask_records.specs.Records.{words_at, told, tells?, told_reply, WordsPut, Lists}

-- ---- a row of words
pub put_start : (at : ℕ) (row out : List ℕ) → WordsPut at 0 row out out
put_start at row out = record { long = refl; put = λ f h. absurd (omega arith); below = λ k h. refl; behind = λ k h. refl }

pub put_next : (at f : ℕ) (row before mid : List ℕ) → WordsPut at f row before mid → at + f < length before
    → WordsPut at (f + 1) row before (set mid (at + f) (get_or row f 0))
put_next at f row before mid g h =
    let v = get_or row f 0 in
    let same : get_or (set mid (at + f) v) (at + f) 0 ≡ v = get_or-set_same mid (at + f) v 0 (omega (arith, g.long)) in
    let other : (k : ℕ) → (k ≡ at + f → ⊥) → get_or (set mid (at + f) v) k 0 ≡ get_or mid k 0 = λ k q. get_or-set_other mid (at + f) k v 0 q in
    record {
      long = length-set mid (at + f) v ∙ g.long;
      put = λ e l. elim (ℕ_discrete e f) [
        | yes q ↦ rw (q, same)
        | no q ↦ other (at + e) (λ w. q (omega arith)) ∙ g.put e (omega (arith, q))
      ];
      below = λ k l. other k (λ w. omega arith) ∙ g.below k l;
      behind = λ k l. other k (λ w. omega arith) ∙ g.behind k (omega arith);
    }

pub put_end : (at f n : ℕ) (row before after : List ℕ) → WordsPut at f row before after → f ≡ n → WordsPut at n row before after
put_end at f n row before after g e = rw e at g

-- ---- the records so far
-- a list by its elements
tabulate_row : (row : List ℕ) (n : ℕ) (f : ℕ → ℕ) → length row ≡ n → ((i : ℕ) → i < n → f i ≡ get_or row i 0) → tabulate n f ≡ row
unfolding tabulate
tabulate_row [] zero f l h = refl
tabulate_row [] (suc n) f l h = absurd (omega arith)
tabulate_row (y ∷ ys) zero f l h = absurd (omega arith)
tabulate_row (y ∷ ys) (suc n) f l h =
    λ k. h zero (omega arith) k ∷ tabulate_row ys n (λ j. f (suc j)) (omega arith) (λ j m. h (suc j) (omega arith)) k

module _ (w j : ℕ) (row mid after : List ℕ) (g : WordsPut (w * j) w row mid after) where
  -- the row is the words of its record
  pub row_words : length row ≡ w → words_at w after j ≡ row
  unfolding words_at
  row_words l = tabulate_row row w (λ f. get_or after (w * j + f) 0) l (λ f h. g.put f h)

  -- a record before it has the words that it had
  pub older_words : (i : ℕ) → i < j → words_at w after i ≡ words_at w mid i
  unfolding words_at cell
  older_words i h = tabulate_ext w (λ f. get_or after (w * i + f) 0) (λ f. get_or mid (w * i + f) 0) (λ f l.
      g.below (w * i + f) (omega (arith, cell_below w i f j h l)))

module _ {B : Type 0} (w : ℕ) (read : List ℕ → List B) (parts : ℕ → List B) where
  pub lists_start : (out : List ℕ) → Lists w read parts 0 out out
  lists_start out = record { tells = λ j h. absurd (omega arith); written = record { long = refl; behind = λ k h. refl } }

  pub lists_next : (j : ℕ) (row before mid after : List ℕ) → Lists w read parts j before mid → WordsPut (w * j) w row mid after
      → length row ≡ w → read row ≡ parts j → Lists w read parts (j + 1) before after
  lists_next j row before mid after g p l e = record {
    tells = λ i h. elim (ℕ_discrete i j) [
      | yes q ↦ rw (q, row_words w j row mid after p l) e
      | no q ↦ ap read (older_words w j row mid after p i (omega (arith, q))) ∙ g.tells i (omega (arith, q))
    ];
    written = record {
      long = p.long ∙ g.written.long;
      behind = λ k h.
          let m : w * (j + 1) ≡ w * j + w = omega arith in
          p.behind k (omega arith) ∙ g.written.behind k (omega arith);
    };
  }

  pub lists_end : (j n : ℕ) (before after : List ℕ) → Lists w read parts j before after → j ≡ n → Lists w read parts n before after
  lists_end j n before after g e = rw e at g

-- ---- what they tell
every-tabulate : {A : Type 0} (test : A → Bool) (n : ℕ) (f : ℕ → A) → ((j : ℕ) → j < n → test (f j) ≡ true)
    → every test (tabulate n f) ≡ true
unfolding tabulate every
every-tabulate test zero f h = refl
every-tabulate test (suc n) f h =
    rw (h zero (omega arith), every-tabulate test n (λ j. f (suc j)) (λ j l. h (suc j) (omega arith))) refl

module _ {A B C : Type 0} (read : A → List B) (parts : C → List B) where
  pub concat_ext : (n : ℕ) (f : ℕ → A) (g : ℕ → C) → ((j : ℕ) → j < n → read (f j) ≡ parts (g j))
      → concat_map read (tabulate n f) ≡ concat_map parts (tabulate n g)
  unfolding tabulate concat_map
  concat_ext zero f g h = refl
  concat_ext (suc n) f g h =
      λ k. h zero (omega arith) k ++ concat_ext n (λ j. f (suc j)) (λ j. g (suc j)) (λ j l. h (suc j) (omega arith)) k

pub told_parts : {B C : Type 0} (w : ℕ) (read : List ℕ → List B) (parts : C → List B) (g : ℕ → C) (n : ℕ) (before after : List ℕ)
    → Lists w read (λ j. parts (g j)) n before after → told w read n after ≡ concat_map parts (tabulate n g)
unfolding told
told_parts w read parts g n before after l = concat_ext read parts n (words_at w after) g l.tells

-- every part tells something, and so does every record
module _ (w : ℕ) (read : List ℕ → List (Option ℕ)) (parts : ℕ → List (Option ℕ)) (n : ℕ) (before after : List ℕ)
    (l : Lists w read parts n before after) (full : (j : ℕ) → tells? (parts j) ≡ true) where
  pub told_reply_lem : told_reply w read n after ≡ numbers (told w read n after)
  unfolding told_reply
  told_reply_lem =
      ap (λ (t : Bool). cond t (numbers (told w read n after)) stale_list)
      (every-tabulate (λ r. tells? (read r)) n (words_at w after) (λ j h. ap tells? (l.tells j h) ∙ full j))

-- one number a record
pub concat_each : {A B : Type 0} (f : A → B) (xs : List A) → concat_map (λ x. f x ∷ []) xs ≡ each f xs
unfolding concat_map each
concat_each f [] = refl
concat_each {B = B} f (x ∷ xs) = ap (λ (l : List B). f x ∷ l) (concat_each f xs)

-- none
pub concat_none : (n : ℕ) (g : ℕ → ℕ) → concat_map {B = Option ℕ} (λ (x : ℕ). none ∷ []) (tabulate n g) ≡ replicate n none
unfolding concat_map tabulate
concat_none zero g = refl
concat_none (suc n) g = ap (λ (l : List (Option ℕ)). none ∷ l) (concat_none n (λ j. g (suc j)))
