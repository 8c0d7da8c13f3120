-- What one read more puts into the buffer. Assumes nothing.
use Rattle.std.proofs.Common.{◌≡◌, ℕ, ◌+◌, ◌-◌, ◌≤◌, List, ◌++◌, arith, length, take, slice_range, sym, ap, ◌∙◌, subst, le_refl, drop_at, length-take-le}
use Rattle.std.proofs.lemmas.Slice.{take-put_mid_below}
use Rattle.std.specs.declared.option.Option.{Option}
use Rattle.std.specs.Io.KnownBytes.{Consumes}
use Rattle.std.proofs.KnownBytes.{Consumes-trans}
use borrow.Rule.Slice.PartMut.{put_mid, post_of}
use lib.Seq.{take-add, take-append-le}

take_split : (a b : ℕ) (old new : List ℕ) → a ≤ b → take a new ≡ take a old → take a old ++ slice_range new a b ≡ take b new
take_split a b old new h front =
    let same : a + (b - a) ≡ b = omega arith in
    ap (λ l. l ++ slice_range new a b) (sym front) ∙ sym (take-add a (b - a) new) ∙ ap (λ n. take n new) same

range_put : (a k n : ℕ) (xs ys : List ℕ) → a ≤ length xs → n ≤ length ys → slice_range (put_mid a k xs ys) a (a + n) ≡ take n ys
range_put a k n xs ys within fits =
    let same : (a + n) - a ≡ n = omega arith in
    let after = post_of a k xs in
    ap (take ((a + n) - a)) (drop_at (take a xs) (ys ++ after) a (length-take-le a xs within)) ∙ ap (λ m. take m (ys ++ after)) same
    ∙ take-append-le n ys after fits

module _ (a b c : Option (List ℕ)) (at k : ℕ) (buf part : List ℕ) (within : at ≤ length buf) (before : Consumes a b (take at buf)) where
  -- n bytes more
  pub read_more : (n next : ℕ) → next ≡ at + n → n ≤ length part → Consumes b c (take n part) → Consumes a c (take next (put_mid at k buf part))
  read_more n next e fits read =
      let joined = take_split at (at + n) buf (put_mid at k buf part) (omega arith) (take-put_mid_below _ _ _ _ _ (le_refl _) within) in
      subst (Consumes a c)
      (ap (λ l. take at buf ++ l) (sym (range_put at k n buf part within fits)) ∙ joined ∙ ap (λ m. take m (put_mid at k buf part)) (sym e))
      (Consumes-trans a b c _ _ before read)
