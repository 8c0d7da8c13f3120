-- The random walk goes round the whole torrent: on the first lap it comes to every piece that waits, and does not end before.
-- Assumes nothing.
use mathlib.Core.Path.{◌≡◌, refl, sym, ap, ◌∙◌, subst}
use mathlib.Core.Logic.{◌≢◌, ⊎_elim}
use Prim.Native.Nat.{ℕ, suc, ◌+◌, ◌-◌, ◌≤◌, ◌<◌}
use native.Mathlib.Decide.{ℕ_discrete, dec_le}
use native.Mathlib.Omega.{arith}
use mathlib.Core.Bool.{Bool, true, false, cond, not, ◌&&◌, ◌||◌, true≢false}
use mathlib.Core.List.{List, [], ◌∷◌}
use lib.Dec.{eqb, leb}
use borrow.Author.Tests.{eqb-true, ne_eqb, lt-ltb, le-ltb, leb-true}
use Rattle.model.specs.Lists.{any, every}
use Rattle.model.specs.State.{Picker, is_open, piece_at, pieces_in, blocks_per_piece}
use Rattle.model.specs.Options.{random_pieces, rand_start_loops}
use Rattle.model.specs.pick.Blocks.{PickRequest, PickState, spent, with_out, with_backup, ignore, flagged, steps, is_ignored, contiguous_above}
use Rattle.model.specs.pick.Blocks.{is_piece_free, whole_pieces, Span, expand_piece, pieces_of, take_span, add_blocks}
use Rattle.model.specs.pick.Pick.{stands_open, onward, trace, RandomWalk, skip_step, skip_done, skip, take_all, arrive, random_span, random_piece}
use Rattle.model.specs.pick.Pick.{random_visit, ended, marked, lap_ends, lap_from, lap_step, walk_over, ring_fuel, ring}
use Rattle.model.proofs.base.Phases.{branch_arms}
use Rattle.model.proofs.base.Truths.{and_left, and_right, true_both, or_no_right}
use Rattle.model.proofs.base.WalkLaws.{repeat_keeps}
use Rattle.pick_laws.proofs.AddLaws.{add_blocks-picker}
use Rattle.model.proofs.pick.FrameLaws.{Blind, blind_closed, any_partial, run_keeps, all_keeps}
use Rattle.pick_laws.proofs.RoundLaws.{far, far_some, far_next}
use Rattle.pick_laws.proofs.SpanLaws.{Around, span_around}
use Rattle.agreement.proofs.complete.Reaching.{repeat_reaches}
use Rattle.agreement.proofs.complete.Giving.{Sure, spent_sure, flags_sure, steps_sure, blocks_sure, span_sure}
use Rattle.agreement.proofs.complete.Standing.{stands_range, any_cons}
use Rattle.agreement.proofs.complete.Quiet.{quiet_self, quiet_flag, quiet_steps, span_open}
use Rattle.agreement.proofs.complete.Taking.{branch_second}
use Rattle.agreement.proofs.complete.Waiting.{Waiting, Coming, sure, waits, waiting_quiet, blocks_coming, blocks_reach}
use Rattle.agreement.proofs.complete.Waiting.{random_coming, random_reaches}

-- ---- round the torrent
module _ (n start : ℕ) (h : start < n) where
  far_low : (p : ℕ) → p < start → far n start p ≡ start - p
  unfolding far
  far_low p l = rw (lt-ltb p start l)

  far_high : (p : ℕ) → start ≤ p → far n start p ≡ n - p + start
  unfolding far
  far_high p l = rw (le-ltb p start l)

  -- two pieces as far from the start are one
  far_once : (p q : ℕ) → p < n → q < n → far n start p ≡ far n start q → p ≡ q
  far_once p q l m e = elim (dec_le start p) [
    | yes f ↦ elim (dec_le start q) [
      | yes g ↦ omega (arith, far_high p f, far_high q g)
      | no g ↦ absurd (omega (arith, far_high p f, far_low q (omega arith)))
    ]
    | no f ↦ elim (dec_le start q) [
      | yes g ↦ absurd (omega (arith, far_low p (omega arith), far_high q g))
      | no g ↦ omega (arith, far_low p (omega arith), far_low q (omega arith))
    ]
  ]

  -- from the start it is a whole lap
  far-start : far n start start ≡ n
  far-start = omega (arith, far_high start (omega arith))

  -- a piece that comes later than p, and is none of those from p to e, comes later than e
  far_beyond : (i p e : ℕ) → i < n → p ≤ e → e < n → far n start i ≤ far n start p → (p ≤ i → i ≤ e → ⊥)
      → (far n start i < far n start e) × (far n start e ≤ far n start p)
  far_beyond i p e l m k f g = elim (dec_le start p) [
    | yes s ↦ elim (dec_le start i) [
      | yes t ↦
          let x = far_high p s in
          let y = far_high e (omega arith) in
          let z = far_high i t in
          elim (dec_le i e) [ yes u ↦ absurd (g (omega arith) u) | no u ↦ (omega arith, omega arith) ]
      | no t ↦
          let x = far_high p s in
          let y = far_high e (omega arith) in
          let z = far_low i (omega arith) in
          (omega arith, omega arith)
    ]
    | no s ↦ elim (dec_le start i) [
      | yes t ↦ let x = far_low p (omega arith) in let z = far_high i t in absurd (omega arith)
      | no t ↦
          let x = far_low p (omega arith) in
          let z = far_low i (omega arith) in
          elim (dec_le i e) [
            | yes u ↦ absurd (g (omega arith) u)
            | no u ↦ let y = far_low e (omega arith) in (omega arith, omega arith)
          ]
    ]
  ]

  -- a step that reaches the start comes from the piece before it
  onto_start : (q : Picker) → pieces_in q ≡ n → (p : ℕ) → p < n → onward q p ≡ start → far n start p ≡ 1
  unfolding onward
  onto_start q m p l e = go (leb (pieces_in q) (suc p)) refl e
    where
      go : (b : Bool) → leb (pieces_in q) (suc p) ≡ b → cond b 0 (suc p) ≡ start → far n start p ≡ 1
      go true t g = let k = leb-true (pieces_in q) (suc p) t in omega (arith, far_high p (omega arith))
      go false t g = omega (arith, far_low p (omega arith))

  -- a step from p where a piece is still to come
  pub onward_on : (q : Picker) → pieces_in q ≡ n → (i p : ℕ) → i < n → p < n → far n start i < far n start p
      → (onward q p < n) × (onward q p ≢ start) × (far n start (onward q p) + 1 ≡ far n start p)
  onward_on q m i p l k f =
      let x = far_next n start h q m p k in
      let s = (far_some n start h i l).0 in
      let ne : onward q p ≢ start = λ e. let o = onto_start q m p k e in omega arith in
      (x.0, ne, ⊎_elim (λ e. absurd (ne e)) (λ e. e) x.1)

-- what holds of each piece of a list holds of one that stands in it
every_one : (ok : ℕ → Bool) (i : ℕ) (ks : List ℕ) → every ok ks ≡ true → any (eqb i) ks ≡ true → ok i ≡ true
unfolding every any
every_one ok i [] o h = absurd (true≢false (sym h))
every_one ok i (k ∷ ks) o h =
    ⊎_elim (λ e. subst (λ m. ok m ≡ true) (sym (eqb-true i k e)) (and_left (ok k) (every ok ks) o))
    (λ e. every_one ok i ks (and_right (ok k) (every ok ks) o) e) (any_cons (eqb i) k ks h)

-- a span leaves the picker as it is
picker_blind : (s : Picker) → Blind (λ v. v.picker ≡ s)
unfolding with_out with_backup ignore
picker_blind s = record { out = λ n r bs w h. h; backup = λ bs w h. h; marks = λ k w h. h }

span_picker : (ks : List ℕ) (w : PickState) → (take_span take_all ks w).picker ≡ w.picker
unfolding steps flagged
span_picker ks w =
    let I : PickState → Type 0 = λ v. v.picker ≡ w.picker in
    let c = blind_closed I (picker_blind w.picker) in
    run_keeps any_partial I c take_all (all_keeps any_partial I c (λ v h. h) (λ f v h. h)) ks w refl

module _ (a : PickRequest) (i j n start : ℕ) (start_in : start < n) (inside : i < n) where
  -- what is to be known of the picker
  pub record Round (s : Picker) : Type 0 where
    pub free : is_piece_free a s i ≡ true
    pub many : pieces_in s ≡ n

  Waits : PickState → Type 0
  Waits w = Waiting a i j Round w

  -- the piece may be visited
  open_waiting : (w : PickState) → Waits w → stands_open a i w ≡ true
  unfolding stands_open Waits
  open_waiting w h = true_both (is_piece_free a w.picker i) (not (is_ignored i w)) h.facts.free (ap not h.unmarked)

  -- ---- skipping
  -- on the way, with m steps left: the piece is still to come
  record Skipping (x : RandomWalk) (m : ℕ) (y : RandomWalk) : Type 0 where
    waiting : Waits y.work
    place : y.place < n
    coming : far n start i ≤ far n start y.place
    nearer : far n start y.place ≤ far n start x.place
    back : y.back ≡ false
    room : far n start y.place ≤ m + far n start i

  -- it ends at a piece that may be visited, not past the one that waits
  record Skipped (x y : RandomWalk) : Type 0 where
    waiting : Waits y.work
    place : y.place < n
    coming : far n start i ≤ far n start y.place
    nearer : far n start y.place ≤ far n start x.place
    back : y.back ≡ false
    stands : stands_open a y.place y.work ≡ true

  waits_step : (m c : ℕ) (w : PickState) → Waits w → Waits (steps m c w)
  unfolding Waits
  waits_step m c w h = waiting_quiet a i j Round w (steps m c w) (quiet_steps w m c w (quiet_self w)) h

  waits_flag : (f : ℕ) (w : PickState) → Waits w → Waits (flagged f w)
  unfolding Waits
  waits_flag f w h = waiting_quiet a i j Round w (flagged f w) (quiet_flag w f w (quiet_self w)) h

  many_waiting : (w : PickState) → Waits w → pieces_in w.picker ≡ n
  unfolding Waits
  many_waiting w h = h.facts.many

  -- a piece that may not be visited is another one, and comes before it
  before : (p : ℕ) (w : PickState) → Waits w → p < n → stands_open a p w ≡ false → far n start i ≤ far n start p
      → far n start i < far n start p
  before p w h l e c = elim (ℕ_discrete i p) [
    | yes q ↦ absurd (true≢false (sym (open_waiting w h) ∙ subst (λ k. stands_open a k w ≡ false) (sym q) e))
    | no q ↦ elim (ℕ_discrete (far n start i) (far n start p)) [
      | yes g ↦ absurd (q (far_once n start start_in i p inside l g))
      | no g ↦ omega arith
    ]
  ]

  skip_next : (x : RandomWalk) (m : ℕ) (y : RandomWalk) → skip_done a y ≡ false → Skipping x (suc m) y → Skipping x m (skip_step start y)
  unfolding skip_step skip_done
  skip_next x m y e h =
      let b = before y.place y.work h.waiting h.place (or_no_right y.back (stands_open a y.place y.work) e)
      h.coming in
      let o = onward_on n start start_in y.work.picker (many_waiting y.work h.waiting) i y.place inside h.place b in
      let f = o.2 in
      record {
        waiting = waits_step 1 rand_start_loops y.work h.waiting;
        place = o.0;
        coming = omega arith;
        nearer = omega (arith, h.nearer);
        back = ne_eqb (onward y.work.picker y.place) start o.1;
        room = omega (arith, h.room);
      }

  or_second : (p q : Bool) → (p || q) ≡ true → p ≡ false → q ≡ true
  or_second true q h e = absurd (true≢false e)
  or_second false q h e = h

  skip_over : (x : RandomWalk) (m : ℕ) (y : RandomWalk) → skip_done a y ≡ true → Skipping x m y → Skipped x y
  unfolding skip_done
  skip_over x m y e h = record {
    waiting = h.waiting;
    place = h.place;
    coming = h.coming;
    nearer = h.nearer;
    back = h.back;
    stands = or_second y.back (stands_open a y.place y.work) e h.back;
  }

  skip_last : (x y : RandomWalk) → Skipping x 0 y → Skipped x y
  skip_last x y h =
      let e : i ≡ y.place = far_once n start start_in i y.place inside h.place (omega (arith, h.coming, h.room)) in
      record {
        waiting = h.waiting;
        place = h.place;
        coming = h.coming;
        nearer = h.nearer;
        back = h.back;
        stands = subst (λ k. stands_open a k y.work ≡ true) e (open_waiting y.work h.waiting);
      }

  skip_gives : (x : RandomWalk) → Waits x.work → x.place < n → far n start i ≤ far n start x.place → Skipped x (skip a start x)
  unfolding skip
  skip_gives x h l c =
      repeat_reaches (Skipping x) (Skipped x) (skip_step start) (skip_done a) (skip_next x) (skip_over x) (skip_last x)
      (pieces_in x.work.picker)
      (record { work = x.work; place = x.place; back = false; seen = x.seen; over = x.over })
      (record {
        waiting = h;
        place = l;
        coming = c;
        nearer = omega arith;
        back = refl;
        room = omega (arith, (far_some n start start_in x.place l).1, many_waiting x.work h);
      })

  skip_sure : (x : RandomWalk) → Sure i j x.work → Sure i j (skip a start x).work
  unfolding skip skip_step
  skip_sure x h =
      repeat_keeps (λ y. Sure i j y.work) (skip_step start) (skip_done a) (λ y e g. steps_sure i j 1 rand_start_loops y.work g)
      (pieces_in x.work.picker) (record { work = x.work; place = x.place; back = false; seen = x.seen; over = x.over }) h

  -- ---- a visit
  -- under way, with m turns left: the block is sure, or its piece is still to come
  record Walking (m : ℕ) (x : RandomWalk) : Type 0 where
    waiting : Waits x.work
    place : x.place < n
    coming : far n start i ≤ far n start x.place
    room : far n start x.place ≤ m
    over : x.over ≡ false

  data Under (m : ℕ) (x : RandomWalk) : Type 0 where
    surely : Sure i j x.work → Under m x
    walking : Walking m x → Under m x

  -- the walk goes on behind piece e, which comes before the piece that waits
  arrives : (m e : ℕ) (x : RandomWalk) (w : PickState) (s : Picker) → s ≡ w.picker → Coming a i j Round w → e < n
      → far n start i < far n start e
      → far n start e ≤ suc m → Under m (arrive start (onward s e) x w)
  unfolding arrive Waits
  arrives m e x w s q (sure h) l f k = surely h
  arrives m e x w s q (waits h) l f k =
      let o = onward_on n start start_in s (ap pieces_in q ∙ h.facts.many) i e inside l f in
      let d = o.2 in
      walking (record {
        waiting = h;
        place = o.0;
        coming = omega arith;
        room = omega arith;
        over = ne_eqb (onward s e) start o.1;
      })

  -- the piece alone
  piece_under : (m : ℕ) (z : RandomWalk) → Waits z.work → z.place < n → far n start i ≤ far n start z.place
      → far n start z.place ≤ suc m
      → Under m (random_piece a start z)
  unfolding random_piece arrive flagged Waits
  piece_under m z h l c k =
      let u = flagged random_pieces z.work in
      let g = waits_flag random_pieces z.work h in
      elim (ℕ_discrete i z.place) [
        | yes e ↦ surely (subst (λ p. Sure i j (add_blocks a p u)) e (blocks_reach a i j Round u g))
        | no e ↦ arrives m z.place z (add_blocks a z.place u) z.work.picker (sym (add_blocks-picker a z.place u))
            (blocks_coming a i j Round z.place u (waits g)) l (strictly e) k
      ]
    where
      strictly : i ≢ z.place → far n start i < far n start z.place
      strictly e = elim (ℕ_discrete (far n start i) (far n start z.place)) [
        | yes q ↦ absurd (e (far_once n start start_in i z.place inside l q))
        | no q ↦ omega arith
      ]

  around : (p : ℕ) (w : PickState) → (m : ℕ) × Around w.picker p m (expand_piece a p w)
  unfolding expand_piece
  around p w =
      let x = span_around a w.picker p (whole_pieces (blocks_per_piece w.picker) w.contiguous) in
      (x.0, x.1)

  -- the piece stands in the span
  span_takes : (p : ℕ) (w : PickState) → Waits w → is_open (piece_at w.picker p).state ≡ true
      → any (eqb i) (pieces_of (expand_piece a p w)) ≡ true
      → Sure i j (take_span take_all (pieces_of (expand_piece a p w)) w)
  unfolding Waits
  span_takes p w h o m =
      let ks = pieces_of (expand_piece a p w) in
      random_reaches a i j Round ks w (every_one (λ k. is_open (piece_at w.picker k).state) i ks (span_open a p w o) m) m h

  among : (x : Span) → x.first ≤ i → i < x.end → any (eqb i) (pieces_of x) ≡ true
  unfolding pieces_of
  among x f t = stands_range i x.first x.end f t

  -- the piece stands behind it
  past : (m : ℕ) (z : RandomWalk) (x : Span) → Coming a i j Round (take_span take_all (pieces_of x) z.work) → x.first ≤ z.place
      → z.place < x.end
      → x.end ≤ n → far n start i ≤ far n start z.place → far n start z.place ≤ suc m → (z.place ≤ i → i ≤ x.end - 1 → ⊥)
      → Under m (arrive start (onward z.work.picker (x.end - 1)) z (take_span take_all (pieces_of x) z.work))
  past m z x g f t y c k out =
      let b = far_beyond n start start_in i z.place (x.end - 1) inside (omega arith) (omega arith) c out in
      let e = b.1 in
      arrives m (x.end - 1) z (take_span take_all (pieces_of x) z.work) z.work.picker (sym (span_picker (pieces_of x) z.work)) g
      (omega arith) b.0
      (omega arith)

  -- a whole span
  span_under : (m : ℕ) (z : RandomWalk) → Waits z.work → z.place < n → far n start i ≤ far n start z.place
      → far n start z.place ≤ suc m
      → is_open (piece_at z.work.picker z.place).state ≡ true → Under m (random_span a start z)
  unfolding random_span arrive Waits
  span_under m z h l c k o =
      let w = z.work in
      let x = expand_piece a z.place w in
      let r = (around z.place w).1 in
      let f = r.from in
      let t = r.to in
      let d = h.facts.many in
      let y = r.inside (omega arith) in
      let g = random_coming a i j Round z.place w o (waits h) in
      elim (dec_le x.first i) [
        | yes p ↦ elim (dec_le x.end i) [
          | yes q ↦ past m z x g f t (omega arith) c k (λ u v. omega arith)
          | no q ↦ surely (span_takes z.place w h o (among x p (omega arith)))
        ]
        | no p ↦ past m z x g f t (omega arith) c k (λ u v. omega arith)
      ]

  visit_under : (m : ℕ) (z : RandomWalk) → Waits z.work → z.place < n → far n start i ≤ far n start z.place
      → far n start z.place ≤ suc m
      → Under m (random_visit a start z)
  unfolding random_visit
  visit_under m z h l c k =
      let w = z.work in
      let o = is_open (piece_at w.picker z.place).state in
      branch_arms (Under m) (contiguous_above 1 w.contiguous && o) (random_span a start) (random_piece a start) z
      (λ e. span_under m z h l c k (and_right (contiguous_above 1 w.contiguous) o e)) (λ e. piece_under m z h l c k)

  visit_sure : (z : RandomWalk) → Sure i j z.work → Sure i j (random_visit a start z).work
  unfolding random_visit random_span random_piece arrive
  visit_sure z h =
      let w = z.work in
      branch_arms (λ y. Sure i j y.work) (contiguous_above 1 w.contiguous && is_open (piece_at w.picker z.place).state)
      (random_span a start)
      (random_piece a start) z
      (λ e. span_sure i j (pieces_of (expand_piece a z.place w)) w h)
      (λ e. blocks_sure i j a z.place (flagged random_pieces w) (flags_sure i j random_pieces w h))

  -- ---- laps
  lap_sure : (x : RandomWalk) → Sure i j x.work → Sure i j (lap_step a start x).work
  unfolding lap_step lap_from ended marked
  lap_sure x h =
      let y = skip a start x in
      let g = skip_sure x h in
      branch_arms (λ v. Sure i j v.work) (lap_ends a y) ended (λ v. random_visit a start (marked v)) y (λ e. g)
      (λ e. visit_sure (marked y) g)

  goes_on : (x y : RandomWalk) → Skipped x y → lap_ends a y ≡ false
  unfolding lap_ends
  goes_on x y h = rw (h.stands, h.back)

  lap_walks : (m : ℕ) (x : RandomWalk) → Walking (suc m) x → Under m (lap_step a start x)
  unfolding lap_step lap_from marked
  lap_walks m x h =
      let y = skip a start x in
      let g = skip_gives x h.waiting h.place h.coming in
      branch_second (Under m) (lap_ends a y) ended (λ v. random_visit a start (marked v)) y (goes_on x y g)
      (visit_under m (marked y) g.waiting g.place g.coming (omega (arith, g.nearer, h.room)))

  lap_next : (m : ℕ) (x : RandomWalk) → walk_over x ≡ false → Under (suc m) x → Under m (lap_step a start x)
  lap_next m x e (surely h) = surely (lap_sure x h)
  lap_next m x e (walking h) = lap_walks m x h

  lap_over : (m : ℕ) (x : RandomWalk) → walk_over x ≡ true → Under m x → Sure i j x.work
  unfolding walk_over
  lap_over m x e (surely h) = h
  lap_over m x e (walking h) = spent_sure i j x.work (or_second x.over (spent x.work) e h.over)

  lap_last : (x : RandomWalk) → Under 0 x → Sure i j x.work
  lap_last x (surely h) = h
  lap_last x (walking h) = absurd (omega (arith, h.room, (far_some n start start_in x.place h.place).0))

  start_under : (w : PickState) → n ≤ ring_fuel → Coming a i j Round w
      → Under ring_fuel (record { work = w; place = start; back = false; seen = trace w; over = false })
  unfolding Waits
  start_under w l (sure h) = surely h
  start_under w l (waits h) = walking (record {
    waiting = h;
    place = start_in;
    coming = omega (arith, far-start n start start_in, (far_some n start start_in i inside).1);
    room = omega (arith, far-start n start start_in);
    over = refl;
  })

  -- the whole walk
  pub ring_gives : (w : PickState) → n ≤ ring_fuel → Coming a i j Round w → Sure i j (ring a start w)
  unfolding ring
  ring_gives w l h =
      repeat_reaches Under (λ x. Sure i j x.work) (lap_step a start) walk_over lap_next lap_over lap_last ring_fuel
      (record { work = w; place = start; back = false; seen = trace w; over = false }) (start_under w l h)
