-- A pass over the blocks of a partial: one block, the start and the end. Assumes nothing.
use mathlib.Core.Path.{◌≡◌, refl, sym, ap, ◌∙◌}
use mathlib.Core.Bool.{Bool, true, false, cond, not, ◌&&◌, ◌||◌}
use mathlib.Core.List.{List, [], ◌∷◌}
use mathlib.Core.Option.{Option, none, some}
use Prim.Native.Nat.{ℕ, suc, ◌+◌, ◌-◌, ◌≤◌, ◌<◌}
use native.Mathlib.Numerals.{add-one}
use native.Mathlib.Omega.{arith}
use lib.Dec.{eqb, ltb}
use lib.ListN.{length, get_or, drop}
use lib.Seq.{drop-cons, drop-length}
use borrow.Author.Tests.{eq-eqb, ne_eqb, lt-ltb, le-ltb, ltb-true}
use Rattle.types.specs.declared.block.BlockState.TheVariants.{None, Requested as RequestedState}
use Rattle.types.specs.Block.{block_state_number}
use Rattle.model.specs.Lists.{nth, len, any}
use Rattle.model.specs.State.{Block, DownloadingPiece, no_block, same_block_state, same_peer, has_peer}
use Rattle.model.specs.pick.Blocks.{RequestedFrom, FreeRun, longer, longest_free, by_another, requested_from}
use Rattle.model.proofs.base.Counts.{and_true}
use Rattle.model.proofs.base.Phases.{cond_arms}
use Rattle.memory_layout.specs.declared.shape.Shape.{Shape}
use Rattle.memory_layout.specs.Tables.{tabulate}
use Rattle.memory_layout.specs.Decode.{block_held}
use Rattle.memory_layout.proofs.TableLaws.{tabulate-len, tabulate-nth}
use Rattle.memory_blocks.specs.declared.info.BlockInfo.{BlockInfo}
use Rattle.memory_blocks.specs.Blocks.{block_of, BlockIs, BlockRead}
use Rattle.pick_requested.specs.declared.requested.Scan.{Scan}
use Rattle.pick_requested.specs.Requested.{found_is, run_of, run_ended, at_work, found_from, Within, PassedOver, Requested}

-- ---- the run before block j
module _ (j : ℕ) (x : Scan) where
  pub run_longer : x.longest < x.now → record { exclusive = x.exclusive; active = x.active; longest = x.now; first = j - x.now; now = 0 } ≡ run_ended j x
  unfolding run_ended longer run_of
  run_longer h = rw (lt-ltb x.longest x.now h)

  pub run_stays : x.now ≤ x.longest
      → record { exclusive = x.exclusive; active = x.active; longest = x.longest; first = x.first; now = 0 } ≡ run_ended j x
  unfolding run_ended longer run_of
  run_stays h = rw (le-ltb x.longest x.now h)

-- its numbers stay in range
longer_in : (j now : ℕ) (x : FreeRun) → now ≤ j → x.longest ≤ j → x.first ≤ j - 1
    → ((longer j now x).longest ≤ j) × ((longer j now x).first ≤ j - 1)
unfolding longer
longer_in j now x a b c =
    cond_arms (λ (r : FreeRun). (r.longest ≤ j) × (r.first ≤ j - 1)) (ltb x.longest now) (record { longest = now; first = j - now }) x
    (λ e. (a, omega (arith, ltb-true x.longest now e))) (λ e. (b, c))

pub run_within : (j : ℕ) (x : Scan) → Within x j → ((run_ended j x).longest ≤ j) × ((run_ended j x).first ≤ j - 1)
unfolding run_ended run_of
run_within j x w = longer_in j x.now (record { longest = x.longest; first = x.first }) w.now w.longest w.first

-- ---- block j passed
-- what is left, by what is known of the block
module _ (peer : Option ℕ) (j : ℕ) (x : Scan) (y : Block) (bs : List Block) where
  leaves : (free same asked has : Bool) → RequestedFrom
  leaves free same asked has =
      record {
        exclusive = x.exclusive && not ((not free && not same) || any (by_another peer) bs);
        active = x.active || (((not free && not same) && (asked && has)) || any (at_work peer) bs);
        longest = (longest_free (suc j) (cond free (suc x.now) 0) (cond free (run_of x) (longer j x.now (run_of x))) bs).longest;
        first = (longest_free (suc j) (cond free (suc x.now) 0) (cond free (run_of x) (longer j x.now (run_of x))) bs).first;
      }

  left_is : (free same asked has : Bool) → same_block_state y.state None ≡ free → same_peer y.peer peer ≡ same
      → same_block_state y.state RequestedState ≡ asked → has_peer y.peer ≡ has
      → found_from peer j x (y ∷ bs) ≡ leaves free same asked has
  unfolding leaves found_from any longest_free by_another at_work
  left_is free same asked has ef es ea eh = λ k. leaves (ef k) (es k) (ea k) (eh k)

-- a free one
module _ (peer : Option ℕ) (j : ℕ) (x : Scan) (b : BlockInfo) where
  free_is : (y : Block) → BlockIs b y → b.state ≡ 0 → same_block_state y.state None ≡ true
  unfolding same_block_state
  free_is y g e = eq-eqb (block_state_number y.state) 0 (sym g.state ∙ e)

  pub passed_free : b.state ≡ 0
      → PassedOver peer j x b
      (record { exclusive = x.exclusive; active = x.active; longest = x.longest; first = x.first; now = x.now + 1 })
  unfolding found_from run_of leaves
  passed_free e = record {
    is = λ y bs g.
        left_is peer j x y bs true (same_peer y.peer peer) (same_block_state y.state RequestedState) (has_peer y.peer) (free_is y g e) refl
        refl refl
        ∙ (λ k. record {
          exclusive = x.exclusive && not (any (by_another peer) bs);
          active = x.active || any (at_work peer) bs;
          longest = (longest_free (suc j) (sym (add-one x.now) k) (run_of x) bs).longest;
          first = (longest_free (suc j) (sym (add-one x.now) k) (run_of x) bs).first;
        });
  }

  pub free_within : Within x j
      → Within (record { exclusive = x.exclusive; active = x.active; longest = x.longest; first = x.first; now = x.now + 1 }) (j + 1)
  free_within w =
      let a = w.now in
      let b = w.longest in
      let c = w.first in
      record { now = omega arith; longest = omega arith; first = omega arith }

-- one that is not: who asked for it counts
exclusive_is : (x same rest : Bool) → (x && not (not same || rest)) ≡ ((x && same) && not rest)
exclusive_is true true rest = refl
exclusive_is true false rest = refl
exclusive_is false same rest = refl

active_is : (x same asked has rest : Bool) → (x || ((not same && (asked && has)) || rest)) ≡ ((x || ((not same && asked) && has)) || rest)
active_is true same asked has rest = refl
active_is false true asked has rest = refl
active_is false false true has rest = refl
active_is false false false has rest = refl

has_is : (has : Bool) (n : ℕ) → has_peer (cond has (some n) none) ≡ has
unfolding has_peer
has_is true n = refl
has_is false n = refl

module _ (peer : Option ℕ) (j : ℕ) (x : Scan) (b : BlockInfo) (e : b.state ≡ 0 → ⊥) where
  busy_is : (y : Block) → BlockIs b y → same_block_state y.state None ≡ false
  unfolding same_block_state
  busy_is y g = ne_eqb (block_state_number y.state) 0 (λ z. e (g.state ∙ z))

  asked_is : (y : Block) → BlockIs b y → same_block_state y.state RequestedState ≡ eqb b.state 1
  unfolding same_block_state
  asked_is y g = ap (λ (n : ℕ). eqb n 1) (sym g.state)

  peer_is : (y : Block) → BlockIs b y → y.peer ≡ (block_of b).peer
  peer_is y g = ap (λ (z : Block). z.peer) (sym g.is)

  named_is : has_peer (block_of b).peer ≡ b.has_peer
  unfolding block_of
  named_is = has_is b.has_peer b.peer

  pub passed_busy : (z : Scan) → z ≡ run_ended j x → (same : Bool) → same ≡ same_peer (block_of b).peer peer
      → PassedOver peer j x b
      (record {
        exclusive = z.exclusive && same;
        active = z.active || ((not same && eqb b.state 1) && b.has_peer);
        longest = z.longest;
        first = z.first;
        now = 0;
      })
  unfolding found_from run_of run_ended leaves
  passed_busy z f same h = record {
    is = λ y bs g.
        left_is peer j x y bs false same (eqb b.state 1) b.has_peer (busy_is y g) (ap (λ (p : Option ℕ). same_peer p peer) (peer_is y g) ∙ sym h)
        (asked_is y g) (ap has_peer (peer_is y g) ∙ named_is)
        ∙ (λ k. record {
          exclusive = exclusive_is x.exclusive same (any (by_another peer) bs) k;
          active = active_is x.active same (eqb b.state 1) b.has_peer (any (at_work peer) bs) k;
          longest = (longest_free (suc j) 0 (longer j x.now (run_of x)) bs).longest;
          first = (longest_free (suc j) 0 (longer j x.now (run_of x)) bs).first;
        })
        ∙ (λ k. found_from peer (suc j) (record {
          exclusive = (sym f k).exclusive && same;
          active = (sym f k).active || ((not same && eqb b.state 1) && b.has_peer);
          longest = (sym f k).longest;
          first = (sym f k).first;
          now = 0;
        }) bs);
  }

  pub busy_within : Within x j → (z : Scan) → z ≡ run_ended j x → (exclusive active : Bool)
      → Within (record { exclusive = exclusive; active = active; longest = z.longest; first = z.first; now = 0 }) (j + 1)
  busy_within w z f exclusive active =
      let a : z.longest ≡ (run_ended j x).longest = ap (λ (v : Scan). v.longest) f in
      let c : z.first ≡ (run_ended j x).first = ap (λ (v : Scan). v.first) f in
      let d = run_within j x w in
      record { now = omega arith; longest = omega (arith, d.0); first = omega (arith, d.1) }

or_false : (t : Bool) → (t || false) ≡ t
or_false true = refl
or_false false = refl

-- ---- the whole pass
-- nothing passed yet
unfoldable pub start_scan : Scan
start_scan = record { exclusive = true; active = false; longest = 0; first = 0; now = 0 }

-- a pass over the blocks `bs` that stands before block j
pub record Passing (peer : Option ℕ) (bs : List Block) (x : Scan) (j : ℕ) : Type 0 where
  pub is : found_from peer j x (drop j bs) ≡ found_from peer 0 start_scan bs
  pub within : Within x j

pub pass_start : (peer : Option ℕ) (bs : List Block) → Passing peer bs start_scan 0
unfolding start_scan
pass_start peer bs = record { is = refl; within = record { now = omega arith; longest = omega arith; first = omega arith } }

pub pass_next : (peer : Option ℕ) (bs : List Block) (x : Scan) (j : ℕ) → Passing peer bs x j → (b : BlockInfo) (r : Scan)
    → j < length bs → BlockIs b (get_or bs j no_block) → PassedOver peer j x b r → Within r (j + 1) → Passing peer bs r (j + 1)
pass_next peer bs x j p b r h g o w =
    record {
      is = rw (add-one j) (sym (o.is (get_or bs j no_block) (drop (suc j) bs) g)
          ∙ ap (found_from peer j x) (sym (drop-cons bs j no_block h)) ∙ p.is);
      within = w;
    }

-- all are passed
module _ (peer : Option ℕ) (bs : List Block) (x : Scan) (j : ℕ) (p : Passing peer bs x j) (e : length bs ≡ j) where
  last_is : found_from peer j x [] ≡ found_from peer 0 start_scan bs
  last_is = ap (found_from peer j x) (sym (ap (λ (n : ℕ). drop n bs) (sym e) ∙ drop-length bs)) ∙ p.is

  ended_is : found_from peer j x []
      ≡ record {
        exclusive = (run_ended j x).exclusive;
        active = (run_ended j x).active;
        longest = (run_ended j x).longest;
        first = (run_ended j x).first;
      }
  unfolding found_from run_ended any longest_free
  ended_is = λ k. record {
    exclusive = and_true x.exclusive k;
    active = or_false x.active k;
    longest = (longer j x.now (run_of x)).longest;
    first = (longer j x.now (run_of x)).first;
  }

  begun_is : (d : DownloadingPiece) → d.blocks ≡ bs → found_from peer 0 start_scan bs ≡ requested_from peer d
  unfolding found_from start_scan requested_from run_of at_work
  begun_is d f = λ k. record {
    exclusive = not (any (by_another peer) (sym f k));
    active = any (at_work peer) (sym f k);
    longest = (longest_free 0 0 (record { longest = 0; first = 0 }) (sym f k)).longest;
    first = (longest_free 0 0 (record { longest = 0; first = 0 }) (sym f k)).first;
  }

  -- what the pass answers
  pub found_is_lem : (z : Scan) → z ≡ run_ended j x → (d : DownloadingPiece) → d.blocks ≡ bs
      → record { exclusive = z.exclusive; active = z.active; longest = z.longest; first = z.first } ≡ requested_from peer d
  found_is_lem z g d f =
      (λ k. record { exclusive = (g k).exclusive; active = (g k).active; longest = (g k).longest; first = (g k).first })
      ∙ sym ended_is ∙ last_is ∙ begun_is d f

-- with the blocks at a place
pub requested_is : (words cells : List ℕ) (s : Shape) (p many : ℕ) (peer : Option ℕ) (x : Scan)
    → Passing peer (tabulate many (block_held words cells s.pieces s.blocks p)) x many → (z : Scan) → z ≡ run_ended many x
    → Requested words cells s p many peer (record { exclusive = z.exclusive; active = z.active; longest = z.longest; first = z.first })
unfolding found_is len
requested_is words cells s p many peer x g z e =
    let bs = tabulate many (block_held words cells s.pieces s.blocks p) in
    let a : z.longest ≡ (run_ended many x).longest = ap (λ (v : Scan). v.longest) e in
    let c : z.first ≡ (run_ended many x).first = ap (λ (v : Scan). v.first) e in
    let d = run_within many x g.within in
    record {
      is = λ u f. found_is_lem peer bs x many g (tabulate-len many (block_held words cells s.pieces s.blocks p)) z e u f;
      longest = omega (arith, d.0);
      first = omega (arith, d.1);
    }

-- block j of them
pub held_next : (words cells : List ℕ) (s : Shape) (p many : ℕ) (peer : Option ℕ) (x : Scan) (j : ℕ)
    → Passing peer (tabulate many (block_held words cells s.pieces s.blocks p)) x j → j < many → (b : BlockInfo) (r : Scan)
    → BlockRead s words cells p j b → PassedOver peer j x b r → Within r (j + 1)
    → Passing peer (tabulate many (block_held words cells s.pieces s.blocks p)) r (j + 1)
unfolding len nth
held_next words cells s p many peer x j g h b r u o w =
    let f = block_held words cells s.pieces s.blocks p in
    pass_next peer (tabulate many f) x j g b r (omega (arith, tabulate-len many f))
    (rw (tabulate-nth many f j no_block h) u.held) o w
