-- Blocks by numbers of three fields: gathered, told, and what that comes to. Assumes nothing.
use Rattle.std.specs.Prelude.{None, Option, Some}
use mathlib.Core.Path.{◌≡◌, refl, sym, ap, ap₂, subst, ◌∙◌}
use mathlib.Core.Bool.{Bool, true, false, cond, not}
use mathlib.Core.List.{List}
use Prim.{tt}
use Prim.Native.Nat.{ℕ, zero, suc, ◌+◌, ◌*◌, ◌/◌, ◌%◌, ◌≤◌, ◌<◌}
use native.Mathlib.Decide.{ℕ_discrete}
use native.Mathlib.Omega.{arith}
use lib.Bits.{bit_or}
use lib.Dec.{eqb, leb}
use lib.ListN.{length, get_or, set, length-set}
use lib.Seq.{get_or-set_same, get_or-set_other}
use borrow.Author.Tests.{eq-eqb, ne_eqb, le-leb, leb-true, eqb-true}
use Rattle.model.specs.Lists.{bit}
use Rattle.model.specs.State.{max_peers}
use Rattle.model.specs.image.Image.{block_kind, last_block_state}
use Rattle.model.proofs.base.Truths.{both_true}
use Rattle.image_bytes.specs.Put.{FieldRead}
use Rattle.image_records.proofs.FrontLaws.{Small}
use Rattle.image_records.proofs.FoundLaws.{BlockGot}
use Rattle.image_pass.specs.declared.tally.Tally.{Tally}
use Rattle.image_pass.specs.Blocks.{BlocksStand, BlocksWell, in_range}
use Rattle.image_pass.specs.Quads.{quad_ok, BlockQuad, Gathered, count_to, free_in, requested_in, QuadsWell, QuadsTold}
use Rattle.image_pass.proofs.BlockLaws.{Reading, reading_start, reading_next, reading_end}
use Rattle.image_pass.proofs.PassLaws.{or_none, block_well}

-- ---- gathered
pub gathered_start : (start : ℕ) (bytes quads : List ℕ) → Gathered start 0 bytes quads quads 0
gathered_start start bytes quads = record { long = refl; each = λ z j h. absurd (omega arith) }

pub gathered_end : (start j many : ℕ) (bytes a b : List ℕ) (wrong : ℕ) → Gathered start j bytes a b wrong → j ≡ many
    → Gathered start many bytes a b wrong
gathered_end start j many bytes a b wrong p e = rw e at p

pub gathered_wrong : (start many : ℕ) (bytes a b : List ℕ) → length b ≡ length a → Gathered start many bytes a b 1
gathered_wrong start many bytes a b e = record { long = e; each = λ z j h. absurd (omega arith) }

pub gathered_next : (start j : ℕ) (bytes a b : List ℕ) (wrong : ℕ) → Gathered start j bytes a b wrong → j < length a
    → (kind state peers has peer q alone : ℕ) → FieldRead (start + 13 * j) 1 bytes kind → FieldRead (start + 13 * j + 1) 1 bytes state
    → FieldRead (start + 13 * j + 2) 2 bytes peers → FieldRead (start + 13 * j + 4) 1 bytes has
    → FieldRead (start + 13 * j + 5) 8 bytes peer
    → q ≡ kind * 16777216 + (state * 65536 + peers) → has ≤ 1 → alone ≡ cond (eqb has 0) peer 0
    → Gathered start (j + 1) bytes a (set b j q) (bit_or wrong alone)
gathered_next start j bytes a b wrong p h kind state peers has peer q alone fk fs fn fh fp e hf ea = record {
  long = length-set b j q ∙ p.long;
  each = λ z i l.
      let o = or_none wrong alone z in
      elim (ℕ_discrete i j) [
        | yes d ↦ rw (d, get_or-set_same b j q 0 (omega (arith, p.long))) (record {
          kind = kind;
          state = state;
          peers = peers;
          has = has;
          peer = peer;
          kind_read = fk;
          state_read = fs;
          peers_read = fn;
          has_read = fh;
          peer_read = fp;
          is = e;
          flag = hf;
          alone = sym ea ∙ o.1;
        })
        | no d ↦ rw (get_or-set_other b j i q 0 d) (p.each o.0 i (omega (arith, d)))
      ];
}

-- ---- told
pub count_next : (n : ℕ) (test : ℕ → Bool) → count_to (n + 1) test ≡ count_to n test + bit (test n)
unfolding count_to
count_next n test = let e : n + 1 ≡ suc n = omega arith in ap (λ (k : ℕ). count_to k test) e

-- n numbers were looked at
pub record Telling (many : ℕ) (quads : List ℕ) (wrong free requested n : ℕ) : Type 0 where
  pub within : n ≤ many
  pub fine : wrong ≡ 0 → (j : ℕ) → j < n → quad_ok (get_or quads j 0) ≡ true
  pub free_is : free ≡ count_to n (free_in quads)
  pub requested_is : requested ≡ count_to n (requested_in quads)
  pub most : (wrong ≤ n) × (free ≤ n) × (requested ≤ n)

pub telling_start : (many : ℕ) (quads : List ℕ) → Telling many quads 0 0 0 0
unfolding count_to
telling_start many quads = record {
  within = omega arith;
  fine = λ z j h. absurd (omega arith);
  free_is = refl;
  requested_is = refl;
  most = (omega arith, omega arith, omega arith);
}

none_wrong : (ok : Bool) → bit (not ok) ≡ 0 → ok ≡ true
none_wrong true e = refl
none_wrong false e = absurd (omega arith)

module _ (many : ℕ) (quads : List ℕ) (wrong free requested n : ℕ) (p : Telling many quads wrong free requested n) where
  pub telling_next : n < many → (a b c : ℕ) (ok : Bool) → ok ≡ quad_ok (get_or quads n 0) → a ≡ bit (not ok)
      → b ≡ bit (eqb (get_or quads n 0 / 65536) 1024) → c ≡ bit (eqb (get_or quads n 0 / 65536) 1025) → (a ≤ 1) × (b ≤ 1) × (c ≤ 1)
      → Telling many quads (wrong + a) (free + b) (requested + c) (n + 1)
  unfolding free_in requested_in
  telling_next h a b c ok eo ea eb ec l = record {
    within = omega arith;
    fine = λ z j k.
        let none : a ≡ 0 = omega arith in
        elim (ℕ_discrete j n) [
          | yes d ↦ rw d (sym eo ∙ none_wrong ok (sym ea ∙ none))
          | no d ↦ p.fine (omega arith) j (omega (arith, d))
        ];
    free_is = ap₂ (λ (x y : ℕ). x + y) p.free_is eb ∙ sym (count_next n (free_in quads));
    requested_is = ap₂ (λ (x y : ℕ). x + y) p.requested_is ec ∙ sym (count_next n (requested_in quads));
    most =
        let m = p.most in
        (omega (arith, m.0, l.0), omega (arith, m.1, l.1), omega (arith, m.2, l.2));
  }

  pub telling_end : many ≤ n → wrong ≡ 0 → (t : Tally) → t.free ≡ free → t.requested ≡ requested → QuadsWell many quads t
  telling_end h z t ef er =
      let e : n ≡ many = omega (arith, p.within) in
      record {
        fine = λ j k. p.fine z j (omega arith);
        free = ef ∙ p.free_is ∙ ap (λ (k : ℕ). count_to k (free_in quads)) e;
        requested = er ∙ p.requested_is ∙ ap (λ (k : ℕ). count_to k (requested_in quads)) e;
      }

-- ---- a block
same_test : (q s b : ℕ) → q ≡ 1024 + s → eqb s b ≡ eqb q (1024 + b)
same_test q s b e = elim (ℕ_discrete s b) [
  | yes d ↦ eq-eqb s b d ∙ sym (eq-eqb q (1024 + b) (omega arith))
  | no d ↦ ne_eqb s b d ∙ sym (ne_eqb q (1024 + b) (λ z. d (omega arith)))
]

module _ (at : ℕ) (bytes : List ℕ) (small : Small bytes) (room : at + 13 ≤ length bytes) (q : ℕ) (p : BlockQuad at bytes q)
    (t : quad_ok q ≡ true) where
  parts : (p.kind ≡ 4) × (p.state ≤ 3) × (p.peers ≤ 1000)
  unfolding quad_ok
  parts =
      let o = both_true (eqb (q / 262144) 256) (leb (q % 65536) 1000) t in
      let e = eqb-true (q / 262144) 256 o.0 in
      let l = leb-true (q % 65536) 1000 o.1 in
      let s = p.state_read.small in
      let n = p.peers_read.small in
      let i = p.is in
      (omega (arith, e, s, n, i), omega (arith, e, s, n, i), omega (arith, l, s, n, i))

  ranged : in_range p.kind p.state p.peers p.has ≡ true
  unfolding in_range
  ranged = rw (
    eq-eqb p.kind block_kind parts.0,
    le-leb p.state last_block_state parts.1,
    le-leb p.has 1 p.flag,
    le-leb p.peers max_peers parts.2,
  )

  pub quad_got : BlockGot at bytes
      (record { state = p.state; num_peers = p.peers; has_peer = eqb p.has 1; peer = p.peer })
  quad_got =
      block_well at bytes small room p.kind p.state p.peers p.has p.peer p.kind_read p.state_read p.peers_read
      p.has_read p.peer_read ranged p.alone

  pub quad_state : (b : ℕ) → eqb p.state b ≡ eqb (q / 65536) (1024 + b)
  quad_state b =
      same_test (q / 65536) p.state b
      (omega (arith, parts.0, parts.1, p.is, p.peers_read.small))

-- ---- all of them
module _ (start many : ℕ) (bytes quads before : List ℕ) (small : Small bytes) (room : start + 13 * many ≤ length bytes) (some : 1 ≤ many)
    (g : Gathered start many bytes before quads 0) (fine : (j : ℕ) → j < many → quad_ok (get_or quads j 0) ≡ true) where
  up_to : (n : ℕ) → n ≤ many
      → Reading start many bytes (record { free = count_to n (free_in quads); requested = count_to n (requested_in quads) }) (start + 13 * n) n
  unfolding count_to free_in requested_in
  up_to zero h =
      let e : start ≡ start + 13 * 0 = omega arith in
      subst (λ (k : ℕ). Reading start many bytes (record { free = 0; requested = 0 }) k 0) e
      (reading_start start many bytes (omega arith) some)
  up_to (suc n) h =
      let q = get_or quads n 0 in
      let at = start + 13 * n in
      let p = g.each refl n (omega arith) in
      let t = fine n (omega arith) in
      let r : at + 13 ≤ length bytes = omega arith in
      let e : at + 13 ≡ start + 13 * suc n = omega arith in
      let m : n + 1 ≡ suc n = omega arith in
      let u : Tally = record {
        free = count_to n (free_in quads) + bit (eqb (q / 65536) 1024);
        requested = count_to n (requested_in quads) + bit (eqb (q / 65536) 1025);
      } in
      let z = reading_next start many bytes
      (record { free = count_to n (free_in quads); requested = count_to n (requested_in quads) }) at n (up_to n (omega arith)) (omega arith)
      (record { state = p.state; num_peers = p.peers; has_peer = eqb p.has 1; peer = p.peer })
      (quad_got at bytes small r q p t) u (
        ap (λ (b : Bool). count_to n (free_in quads) + bit b) (sym (quad_state at bytes small r q p t 0)),
        ap (λ (b : Bool). count_to n (requested_in quads) + bit b) (sym (quad_state at bytes small r q p t 1)),
      ) in
      subst (λ (k : ℕ). Reading start many bytes u k (suc n)) e (subst (Reading start many bytes u (at + 13)) m z)

  pub all_well : (t : Tally) → t.free ≡ count_to many (free_in quads) → t.requested ≡ count_to many (requested_in quads)
      → BlocksStand start many bytes t
  all_well t ef er =
      let e : ◌≡◌ {A = Tally} (record { free = count_to many (free_in quads); requested = count_to many (requested_in quads) }) t
      = ap₂ (λ (a b : ℕ). record { free = a; requested = b }) (sym ef) (sym er) in
      subst (BlocksStand start many bytes) e
      (reading_end start many bytes _ (start + 13 * many) many (up_to many (omega arith)) (omega arith))

pub told_well : (start many : ℕ) (bytes quads before : List ℕ) → Small bytes → start + 13 * many ≤ length bytes → 1 ≤ many
    → Gathered start many bytes before quads 0 → (r : Option Tally) → QuadsTold many quads r → BlocksWell start many bytes r
unfolding QuadsTold BlocksWell
told_well start many bytes quads before small room some g (Some t) w =
    all_well start many bytes quads before small room some g w.fine t w.free w.requested
told_well start many bytes quads before small room some g None w = tt
