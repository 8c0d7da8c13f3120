-- A record put field by field: a byte of kind, then numbers, each behind the one before it. Assumes nothing.
use mathlib.Core.Path.{◌≡◌, sym, ap, ap₂, ◌∙◌}
use mathlib.Core.List.{List, ◌∷◌, ◌++◌, append_assoc}
use Prim.Native.Nat.{ℕ, ◌+◌, ◌/◌, ◌%◌, ◌^◌, ◌<◌}
use native.Mathlib.Omega.{arith}
use lib.ListN.{length, take, drop, length-append}
use lib.Seq.{length-take-le, take-append-le, take-take, drop_at}
use Rattle.model.specs.image.Image.{bytes_of}
use Rattle.image_bytes.specs.Put.{Put}
use Rattle.image_bytes.proofs.PutLaws.{put_then, put_as, bytes_long}

-- a number of w bytes, k bytes behind the record's place, and what follows it
pub put_next : (at k w n : ℕ) (rest a b c : List ℕ) → Put (at + k) (bytes_of w n) a b → Put (at + (k + w)) rest b c
    → Put (at + k) (bytes_of w n ++ rest) a c
put_next at k w n rest a b c p q =
    put_then (at + k) (at + (k + w)) (bytes_of w n) rest a b c p (omega (arith, bytes_long w n)) q

-- the byte of kind
pub kind_byte : (kind : ℕ) (rest : List ℕ) → kind < 256 → bytes_of 1 kind ++ rest ≡ kind ∷ rest
unfolding bytes_of
kind_byte kind rest h = let e : kind / 256 ^ 0 % 256 ≡ kind = omega arith in ap (λ (x : ℕ). x ∷ rest) e

-- and the body
pub put_kind : (at kind : ℕ) (rest a b c : List ℕ) → kind < 256 → Put at (bytes_of 1 kind) a b → Put (at + 1) rest b c
    → Put at (kind ∷ rest) a c
put_kind at kind rest a b c h p q =
    put_as at _ _ a c (put_then at (at + 1) (bytes_of 1 kind) rest a b c p (omega (arith, bytes_long 1 kind)) q) (kind_byte kind rest h)

-- what stands in front of a part that is there already
pub put_before : (at mid : ℕ) (xs ys a b c : List ℕ) → Put mid ys a b → mid ≡ at + length xs → Put at xs b c → Put at (xs ++ ys) a c
put_before at mid xs ys a b c p e q =
    let front = take mid a in
    let rest = ys ++ drop (mid + length ys) a in
    let lf : length front ≡ mid = length-take-le mid a (omega (arith, p.fits)) in
    let t : take at b ≡ take at a =
    ap (take at) p.is ∙ take-append-le at front rest (omega arith) ∙ take-take at mid a (omega arith) in
    let d : drop (at + length xs) b ≡ rest =
    ap (λ (k : ℕ). drop k b) (sym e) ∙ ap (drop mid) p.is ∙ drop_at front rest mid lf in
    let n : mid + length ys ≡ at + length (xs ++ ys) = omega (arith, length-append xs ys) in
    record {
      fits = omega (arith, length-append xs ys, p.fits);
      long = q.long ∙ p.long;
      is =
          q.is
          ∙ ap₂ (λ (x y : List ℕ). x ++ (xs ++ y)) t d
          ∙ ap (λ (l : List ℕ). take at a ++ l) (sym (append_assoc xs ys (drop (mid + length ys) a)))
          ∙ ap (λ (k : ℕ). take at a ++ ((xs ++ ys) ++ drop k a)) n;
    }
