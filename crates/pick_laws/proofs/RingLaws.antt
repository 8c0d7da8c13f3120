-- The random walk ends: its turns suffice, and few steps are skipped. Assumes nothing.
use mathlib.Core.Path.{◌≡◌, refl, sym, ap, ◌∙◌}
use mathlib.Core.Logic.{◌⊎◌, inl, inr, ⊎_elim}
use Prim.Native.Nat.{ℕ, ◌+◌, ◌-◌, ◌*◌, ◌≤◌, ◌<◌, min}
use native.Mathlib.Nat.{mul-le-mul_left}
use native.Mathlib.Decide.{dec_le}
use native.Mathlib.Omega.{arith}
use mathlib.Core.Bool.{Bool, true, false, cond, not, ◌&&◌, true≢false}
use lib.ListN.{length}
use lib.Dec.{eqb}
use borrow.Author.Tests.{eqb-false, not-true, not-false}
use Rattle.model.specs.Lists.{repeat}
use Rattle.model.specs.State.{Picker, is_open, piece_at, pieces_in, blocks_per_piece, blocks_in_piece}
use Rattle.model.specs.Options.{random_pieces, rand_start_loops, rand_loops}
use Rattle.model.specs.pick.Blocks.{PickRequest, PickState, spent, flagged, steps, is_ignored, contiguous_above, is_piece_free}
use Rattle.model.specs.pick.Blocks.{whole_pieces, expand_piece, pieces_of, take_span, add_blocks}
use Rattle.model.specs.pick.Pick.{stands_open, onward, Trace, trace, same_trace, RandomWalk, skip_step, skip_done, skip, take_all, arrive}
use Rattle.model.specs.pick.Pick.{random_span, random_piece, random_visit, ended, marked, lap_ends, lap_from, lap_step, walk_over, ring_fuel}
use Rattle.model.specs.pick.Pick.{ring}
use Rattle.model.specs.image.Sound.{Sound}
use Rattle.model.proofs.base.Bep3Laws.{blocks_in_piece_pos}
use Rattle.model.proofs.base.WalkLaws.{repeat_ends, repeat_enough, repeat_keeps}
use Rattle.model.proofs.pick.FrameLaws.{blind_closed, run_keeps, blocks_keeps, all_keeps, any_partial}
use Rattle.model.proofs.pick.PhaseLaws.{step_spent, flag_spent}
use Rattle.model.proofs.pick.SoundPick.{sound_sized}
use Rattle.pick_laws.proofs.SpanLaws.{Around, span_around}
use Rattle.pick_laws.proofs.BoundLaws.{Tight, tight_left}
use Rattle.pick_laws.proofs.OutputLaws.{bounded_kept}
use Rattle.pick_laws.proofs.CounterLaws.{counter, counter_step, counter_blind, counter_flag, counter_keeps}
use Rattle.pick_laws.proofs.TraceLaws.{weight, Rises, rises_weight, rises_same, rises_then, rises_differ, Grows, grows_flag}
use Rattle.pick_laws.proofs.TraceLaws.{blocks_grow, run_grow, run_rises, weight_most}
use Rattle.pick_laws.proofs.RoundLaws.{Torrent, far, far_some, far_next, far_on, member_span, ahead, not_done, skip_nearer}
use Rattle.model.proofs.base.Truths.{and_right, or_no_left, or_no_right}
use Rattle.model.proofs.base.Phases.{branch_arms}

-- ---- the walk, where it is under way
module _ (n start b N R : ℕ) (start_in : start < n) (n_most : n ≤ 4096) (N_most : N ≤ 2048) where
  -- what holds of the work since the trace was seen
  record Running (seen : Trace) (w : PickState) : Type 0 where
    torrent : Torrent n w.picker
    tight : Tight b N R (N + R + 255) w
    marks : length w.ignored ≡ 4096
    rises : Rises seen (trace w)

  running_step : (t : Trace) (m c : ℕ) (w : PickState) → Running t w → Running t (steps m c w)
  unfolding steps trace Tight
  running_step t m c w h = record { torrent = h.torrent; tight = h.tight; marks = h.marks; rises = h.rises }

  step_weight : (m c : ℕ) (w : PickState) → weight (trace (steps m c w)) ≡ weight (trace w)
  unfolding steps trace
  step_weight m c w = refl

  -- what skipping from x has come to
  record Skipping (x y : RandomWalk) : Type 0 where
    work : Running x.seen y.work
    more : spent y.work ≡ false
    same : weight (trace y.work) ≡ weight (trace x.work)
    seen : y.seen ≡ x.seen
    inside : y.place < n
    near : ahead n start y ≤ far n start x.place
    peer_count : counter rand_start_loops y.work + ahead n start y ≤ counter rand_start_loops x.work + far n start x.place

  skip_next : (x y : RandomWalk) → y.back ≡ false → Skipping x y → Skipping x (skip_step start y)
  unfolding skip_step
  skip_next x y e h =
      let l = skip_nearer n start start_in y h.work.torrent.many h.inside e in
      let k = counter_step 1 rand_start_loops y.work in
      record {
        work = running_step x.seen 1 rand_start_loops y.work h.work;
        more = step_spent y.work 1 rand_start_loops h.more;
        same = step_weight 1 rand_start_loops y.work ∙ h.same;
        seen = h.seen;
        inside = (far_next n start start_in y.work.picker h.work.torrent.many y.place h.inside).0;
        near = omega (arith, h.near);
        peer_count = omega (arith, h.peer_count);
      }

  skip_gives : (a : PickRequest) (x : RandomWalk) → Running x.seen x.work → spent x.work ≡ false → x.place < n → Skipping x (skip a start x)
  unfolding skip ahead
  skip_gives a x h z l =
      repeat_keeps (Skipping x) (skip_step start) (skip_done a) (λ y e g. skip_next x y (not_done a y e) g) (pieces_in x.work.picker)
      (record { work = x.work; place = x.place; back = false; seen = x.seen; over = x.over })
      (record {
        work = h;
        more = z;
        same = refl;
        seen = refl;
        inside = l;
        near = omega arith;
        peer_count = omega arith;
      })

  -- ---- the number that falls
  -- laps that may still be made, times the pieces, and the steps to the start
  pot : ℕ → ℕ → ℕ → ℕ
  pot now seen d = n * (8191 - now + min 1 (now - seen)) + d

  potential : RandomWalk → ℕ
  potential x = pot (weight (trace x.work)) (weight x.seen) (far n start x.place)

  -- a new lap costs one of those that may be made
  pot_lap : (now seen d : ℕ) → seen < now → now ≤ 8191 → d ≤ n → pot now now d ≤ pot now seen 0
  unfolding pot
  pot_lap now seen d l m h =
      let e : 8191 - now + min 1 (now - now) ≡ 8191 - now = omega arith in
      let f : 8191 - now + min 1 (now - seen) ≡ 8191 - now + 1 = omega arith in
      rw (e, f) (omega arith)

  -- what a visit adds leaves no more of them, and a rise by 2 leaves fewer
  pot_more : (now next seen d e : ℕ) → seen ≤ now → now ≤ next → next ≤ 8191 → d < e → pot next seen d < pot now seen e
  unfolding pot
  pot_more now next seen d e h l m k =
      let g = mul-le-mul_left {m = 8191 - next + min 1 (next - seen)} {n = 8191 - now + min 1 (now - seen)} n (omega arith) in
      omega arith

  pot_two : (now next seen d e : ℕ) → seen ≤ now → now + 2 ≤ next → next ≤ 8191 → d ≤ n → 1 ≤ e → pot next seen d < pot now seen e
  unfolding pot
  pot_two now next seen d e h l m k i =
      let g = mul-le-mul_left {m = 8191 - next + min 1 (next - seen) + 1} {n = 8191 - now + min 1 (now - seen)} n (omega arith) in
      omega arith

  -- a piece that is to be visited
  record Visiting (x z : RandomWalk) : Type 0 where
    work : Running z.seen z.work
    more : spent z.work ≡ false
    inside : z.place < n
    unmarked : is_ignored z.place z.work ≡ false
    less : potential z ≤ potential x
    peer_count : counter rand_start_loops z.work + potential z ≤ counter rand_start_loops x.work + potential x

  now_most : (t : Trace) (w : PickState) → spent w ≡ false → Running t w → weight (trace w) ≤ 8191
  now_most t w z h = weight_most b N R (N + R + 255) w N_most z h.marks h.tight

  -- what lap_ends says where it does not hold
  goes_on : (a : PickRequest) (y : RandomWalk) → lap_ends a y ≡ false
      → (is_ignored y.place y.work ≡ false) × (y.back ≡ true → same_trace (trace y.work) y.seen ≡ false)
  unfolding lap_ends stands_open
  goes_on a y e =
      let o = stands_open a y.place y.work in
      let c = y.back && same_trace (trace y.work) y.seen in
      let f = not-false (stands_open a y.place y.work) (or_no_left (not o) c e) in (
        not-true (is_ignored y.place y.work) (and_right (is_piece_free a y.work.picker y.place) (not (is_ignored y.place y.work)) f),
        λ q. and_no y.back (same_trace (trace y.work) y.seen) q (or_no_right (not o) c e),
      )
    where
      and_no : (p q : Bool) → p ≡ true → (p && q) ≡ false → q ≡ false
      and_no true q h g = g
      and_no false q h g = absurd (true≢false (sym h))

  pot_add : (now seen d : ℕ) → pot now seen d ≡ pot now seen 0 + d
  unfolding pot
  pot_add now seen d = omega arith

  -- the start is to be visited again
  visit_lap : (a : PickRequest) (x y : RandomWalk) → Skipping x y → lap_ends a y ≡ false → y.back ≡ true
      → Visiting x (record { work = y.work; place = y.place; back = y.back; seen = trace y.work; over = y.over })
  unfolding potential ahead
  visit_lap a x y h e q =
      let w = weight (trace y.work) in
      let g = goes_on a y e in
      let l = rises_differ x.seen (trace y.work) (rw h.seen at (g.1 q)) h.work.rises in
      let m = now_most x.seen y.work h.more h.work in
      let f = pot_lap w (weight x.seen) (far n start y.place) l m (far_some n start start_in y.place h.inside).1 in
      let d = rw h.same at (pot_add w (weight x.seen) (far n start x.place)) in
      let f' = rw h.same at f in
      let c = rw q at h.peer_count in
      record {
        work = record { torrent = h.work.torrent; tight = h.work.tight; marks = h.work.marks; rises = rises_same (trace y.work) };
        more = h.more;
        inside = h.inside;
        unmarked = g.0;
        less = rw h.same (omega arith);
        peer_count = rw h.same (omega arith);
      }

  -- a piece further on
  visit_on : (a : PickRequest) (x y : RandomWalk) → Skipping x y → lap_ends a y ≡ false → y.back ≡ false
      → Visiting x (record { work = y.work; place = y.place; back = y.back; seen = y.seen; over = y.over })
  unfolding potential ahead
  visit_on a x y h e q =
      let w = weight (trace x.work) in
      let g = goes_on a y e in
      let d = pot_add w (weight x.seen) (far n start x.place) in
      let d' = pot_add w (weight x.seen) (far n start y.place) in
      let k = rw q at h.near in
      let c = rw q at h.peer_count in
      record {
        work = record { torrent = h.work.torrent; tight = h.work.tight; marks = h.work.marks; rises = rw h.seen h.work.rises };
        more = h.more;
        inside = h.inside;
        unmarked = g.0;
        less = rw (h.same, h.seen) (omega arith);
        peer_count = rw (h.same, h.seen) (omega arith);
      }

  mark_visits : (a : PickRequest) (x y : RandomWalk) → Skipping x y → lap_ends a y ≡ false → Visiting x (marked y)
  unfolding marked
  mark_visits a x y h e = go y.back refl
    where
      go : (k : Bool) → y.back ≡ k
          → Visiting x (record { work = y.work; place = y.place; back = y.back; seen = cond k (trace y.work) y.seen; over = y.over })
      go true q = visit_lap a x y h e q
      go false q = visit_on a x y h e q

  -- ---- a visit
  record Visited (z v : RandomWalk) : Type 0 where
    work : Running v.seen v.work
    inside : v.place < n
    falls : walk_over v ≡ false → potential v < potential z
    peer_count : counter rand_start_loops v.work ≤ counter rand_start_loops z.work

  running_on : (t : Trace) (w v : PickState) → Running t w → Grows w v → Tight b N R (N + R + 255) v → Running t v
  running_on t w v h g k = record {
    torrent = rw g.picker h.torrent;
    tight = k;
    marks = g.marks;
    rises = rises_then t (trace w) (trace v) h.rises g.rises;
  }

  running_self : (t : Trace) (w : PickState) → Running t w → Grows w w
  running_self t w h =
      let l = tight_left b N R (N + R + 255) w h.tight in
      record { rises = rises_same (trace w); left = omega arith; marks = h.marks; picker = refl }

  -- the walk goes on
  still_on : (p : ℕ) (z : RandomWalk) (w : PickState) → walk_over (arrive start p z w) ≡ false → (p ≡ start → ⊥) × (spent w ≡ false)
  unfolding walk_over arrive
  still_on p z w e = (eqb-false p start (or_no_left (eqb p start) (spent w) e), or_no_right (eqb p start) (spent w) e)

  -- arriving at another piece, where a number falls
  arrives : (p : ℕ) (z : RandomWalk) (w : PickState) → Running z.seen z.work → Grows z.work w → Tight b N R (N + R + 255) w
      → p < n → counter rand_start_loops w ≤ counter rand_start_loops z.work
      → ((p ≡ start → ⊥) → spent w ≡ false → (far n start p < far n start z.place) ⊎ (weight (trace z.work) + 2 ≤ weight (trace w)))
      → z.place < n → Visited z (arrive start p z w)
  unfolding arrive potential
  arrives p z w h g k l c f i = record {
    work = running_on z.seen z.work w h g k;
    inside = l;
    falls = λ e.
        let o = still_on p z w e in
        let m = now_most z.seen w o.1 (running_on z.seen z.work w h g k) in
        let s = rises_weight z.seen (trace z.work) h.rises in
        let r = rises_weight (trace z.work) (trace w) g.rises in
        ⊎_elim (λ d. pot_more (weight (trace z.work)) (weight (trace w)) (weight z.seen) (far n start p) (far n start z.place) s r m d)
        (λ d. pot_two (weight (trace z.work)) (weight (trace w)) (weight z.seen) (far n start p) (far n start z.place) s d m
        (far_some n start start_in p l).1 (far_some n start start_in z.place i).0)
        (f o.0 o.1);
    peer_count = c;
  }

  module _ (a : PickRequest) (x z : RandomWalk) (h : Visiting x z) where
    -- a piece
    arrives_piece : Visited z (arrive start (onward z.work.picker z.place) z (add_blocks a z.place (flagged random_pieces z.work)))
    arrives_piece =
        let w = z.work in
        let i = z.place in
        let k = bounded_kept b N R N_most a in
        let f = far_next n start start_in w.picker h.work.torrent.many i h.inside in
        let m = counter rand_start_loops w in
        arrives (onward w.picker i) z (add_blocks a i (flagged random_pieces w)) h.work
        (blocks_grow w a i (flagged random_pieces w) (grows_flag w random_pieces w (running_self z.seen w h.work)))
        (k.piece i (flagged random_pieces w) (flag_spent w random_pieces h.more) (k.flags random_pieces w h.work.tight))
        f.0
        (blocks_keeps any_partial (λ v. counter rand_start_loops v ≤ m) (blind_closed (λ v. counter rand_start_loops v ≤ m) (counter_blind rand_start_loops m)) a i
        (flagged random_pieces w) (counter_flag rand_start_loops m random_pieces w (omega arith)))
        (λ q e. ⊎_elim (λ p. absurd (q p)) (λ p. inl (omega arith)) f.1)
        h.inside

    around : (m : ℕ) × Around z.work.picker z.place m (expand_piece a z.place z.work)
    unfolding expand_piece
    around =
        let p = span_around a z.work.picker z.place (whole_pieces (blocks_per_piece z.work.picker) z.work.contiguous) in
        (p.0, p.1)

    -- a run
    arrives_run : Visited z (arrive start (onward z.work.picker ((expand_piece a z.place z.work).end - 1)) z
        (take_span take_all (pieces_of (expand_piece a z.place z.work)) z.work))
    arrives_run =
        let w = z.work in
        let i = z.place in
        let x = expand_piece a i w in
        let is = pieces_of x in
        let o = around.1 in
        let t = o.to in
        let e = o.inside (omega (arith, h.work.torrent.many, h.inside)) in
        let many = h.work.torrent.many in
        let r : x.end - 1 < n = omega arith in
        let k = bounded_kept b N R N_most a in
        let g = running_self z.seen w h.work in
        let f = far_next n start start_in w.picker many (x.end - 1) r in
        let m = counter rand_start_loops w in
        let c = blind_closed (λ v. counter rand_start_loops v ≤ m) (counter_blind rand_start_loops m) in
        let in_marks : i < 4096 = omega (arith, h.inside) in
        arrives (onward w.picker (x.end - 1)) z (take_span take_all is w) h.work (run_grow w is w g) (k.span i w h.more h.work.tight) f.0
        (run_keeps any_partial (λ v. counter rand_start_loops v ≤ m) c take_all
        (all_keeps any_partial (λ v. counter rand_start_loops v ≤ m) c (λ v q. counter_keeps rand_start_loops m 1 rand_loops v (λ p. omega arith) q) (counter_flag rand_start_loops m))
        is w (omega arith))
        (λ q y. elim (dec_le start i) [
          | yes l ↦ inl (nearer q f (far_on n start start_in i (x.end - 1) (omega arith) r (λ p. absurd (omega arith))))
          | no l ↦ elim (dec_le start (x.end - 1)) [
            | yes p ↦ inr (run_rises i w in_marks (h.work.torrent.blocks i h.inside) is (member_span w.picker i around.0 x o) h.unmarked g)
            | no p ↦ inl (nearer q f (far_on n start start_in i (x.end - 1) (omega arith) r (λ u. omega arith)))
          ]
        ])
        h.inside
      where
        nearer : {p d e : ℕ} → (p ≡ start → ⊥) → (p < n) × ((p ≡ start) ⊎ (far n start p + 1 ≡ d)) → d ≤ e → far n start p < e
        nearer q f l = ⊎_elim (λ z. absurd (q z)) (λ z. omega arith) f.1

  -- ---- a turn of the walk
  record Lapped (x v : RandomWalk) : Type 0 where
    work : Running v.seen v.work
    inside : v.place < n
    falls : walk_over v ≡ false → potential v < potential x
    peer_count : counter rand_start_loops v.work ≤ counter rand_start_loops x.work + potential x
    pays : walk_over v ≡ false → counter rand_start_loops v.work + potential v ≤ counter rand_start_loops x.work + potential x

  visited_lapped : (x z v : RandomWalk) → Visiting x z → Visited z v → Lapped x v
  visited_lapped x z v h g =
      let c = h.peer_count in
      let d = g.peer_count in
      let l = h.less in
      record {
        work = g.work;
        inside = g.inside;
        falls = λ e. let f = g.falls e in omega arith;
        peer_count = omega arith;
        pays = λ e. let f = g.falls e in omega arith;
      }

  visit_lapped : (a : PickRequest) (x z : RandomWalk) → Visiting x z → Lapped x (random_visit a start z)
  unfolding random_visit random_span random_piece
  visit_lapped a x z h =
      let w = z.work in
      branch_arms (Lapped x) (contiguous_above 1 w.contiguous && is_open (piece_at w.picker z.place).state) (random_span a start)
      (random_piece a start) z
      (λ e. visited_lapped x z _ h (arrives_run a x z h)) (λ e. visited_lapped x z _ h (arrives_piece a x z h))

  potential-far : (x : RandomWalk) → far n start x.place ≤ potential x
  unfolding potential
  potential-far x = omega (arith, pot_add (weight (trace x.work)) (weight x.seen) (far n start x.place))

  ended_lapped : (x y : RandomWalk) → Skipping x y → Lapped x (ended y)
  unfolding ended walk_over
  ended_lapped x y h = record {
    work = rw h.seen h.work;
    inside = h.inside;
    falls = λ e. absurd (true≢false e);
    peer_count = omega (arith, h.peer_count, potential-far x);
    pays = λ e. absurd (true≢false e);
  }

  lap_lapped : (a : PickRequest) (x : RandomWalk) → walk_over x ≡ false → Running x.seen x.work → x.place < n → Lapped x (lap_step a start x)
  unfolding lap_step lap_from walk_over
  lap_lapped a x o h l =
      let y = skip a start x in
      let g = skip_gives a x h (or_no_right x.over (spent x.work) o) l in
      branch_arms (Lapped x) (lap_ends a y) ended (λ v. random_visit a start (marked v)) y (λ e. ended_lapped x y g)
      (λ e. visit_lapped a x (marked y) (mark_visits a x y g e))

  -- ---- the walk
  first : PickState → RandomWalk
  first w = record { work = w; place = start; back = false; seen = trace w; over = false }

  first-potential : (w : PickState) → potential (first w) ≤ n * 8192
  unfolding potential first pot
  first-potential w =
      let now = weight (trace w) in
      let g = mul-le-mul_left {m = 8191 - now + min 1 (now - now)} {n = 8191} n (omega arith) in
      let f = far_some n start start_in start start_in in
      omega arith

  -- it ends
  walk_over_lem : (a : PickRequest) (w : PickState) → Running (trace w) w → walk_over (repeat ring_fuel (lap_step a start) walk_over (first w)) ≡ true
  unfolding first
  walk_over_lem a w h =
      repeat_ends (λ x. Running x.seen x.work × (x.place < n)) (lap_step a start) walk_over potential
      (λ x e g. let l = lap_lapped a x e g.0 g.1 in ((l.work, l.inside), l.falls)) ring_fuel (first w) (h, start_in)
      (λ e. let p = first-potential w in omega arith)

  -- m steps at most have been skipped, and the number that falls pays for those to come
  record Paid (m : ℕ) (x : RandomWalk) : Type 0 where
    work : Running x.seen x.work
    inside : x.place < n
    peer_count : counter rand_start_loops x.work ≤ m
    pays : walk_over x ≡ false → counter rand_start_loops x.work + potential x ≤ m

  -- it skips few steps
  walk_skips : (a : PickRequest) (w : PickState) → Running (trace w) w → counter rand_start_loops (ring a start w) ≤ counter rand_start_loops w + n * 8192
  unfolding ring first
  walk_skips a w h =
      let m = counter rand_start_loops w + n * 8192 in
      let p = first-potential w in
      let f = repeat_keeps (Paid m) (lap_step a start) walk_over
      (λ x e g. let l = lap_lapped a x e g.work g.inside in let b = g.pays e in
      record { work = l.work; inside = l.inside; peer_count = omega (arith, l.peer_count); pays = λ o. omega (arith, l.pays o) })
      ring_fuel (first w)
      (record { work = h; inside = start_in; peer_count = omega arith; pays = λ e. omega arith }) in
      f.peer_count

-- ---- the walk of a picker
-- what the walk starts from: the picker s, N blocks wanted, and 4,096 marks
pub record Ready (s : Picker) (N R : ℕ) (w : PickState) : Type 0 where
  pub picker : w.picker ≡ s
  pub tight : Tight (blocks_per_piece s) N R (N + R + 255) w
  pub marks : length w.ignored ≡ 4096

module _ (s : Picker) (N R : ℕ) (most : N ≤ 2048) (h : Sound s) (a : PickRequest) (start : ℕ) (start_in : start < pieces_in s) (w : PickState) (r : Ready s N R w) where
  sound_torrent : Torrent (pieces_in s) s
  unfolding blocks_in_piece
  sound_torrent =
      record { many = refl; blocks = λ i l. blocks_in_piece_pos s.total_size s.piece_size i (sound_sized s h).some (omega (arith, h.many)) }

  ready_running : Running (pieces_in s) start (blocks_per_piece s) N R start_in (sound_sized s h).few most (trace w) w
  ready_running = record { torrent = rw r.picker sound_torrent; tight = r.tight; marks = r.marks; rises = rises_same (trace w) }

  -- the turns suffice: the walk comes to its end
  pub ring_over : walk_over (repeat ring_fuel (lap_step a start) walk_over (record { work = w; place = start; back = false; seen = trace w; over = false })) ≡ true
  unfolding first
  ring_over = walk_over_lem (pieces_in s) start (blocks_per_piece s) N R start_in (sound_sized s h).few most a w ready_running

  -- more turns change nothing
  pub ring_enough : (m : ℕ)
      → (repeat (ring_fuel + m) (lap_step a start) walk_over (record { work = w; place = start; back = false; seen = trace w; over = false })).work ≡ ring a start w
  unfolding ring
  ring_enough m =
      ap (λ (x : RandomWalk). x.work) (repeat_enough (lap_step a start) walk_over ring_fuel m (record { work = w; place = start; back = false; seen = trace w; over = false }) ring_over)

  -- it skips at most 33,554,432 steps
  pub ring_skips : counter rand_start_loops (ring a start w) ≤ counter rand_start_loops w + 33554432
  ring_skips =
      let f = (sound_sized s h).few in
      omega (arith, walk_skips (pieces_in s) start (blocks_per_piece s) N R start_in (sound_sized s h).few most a w ready_running)
