-- The room of a pick under way: what it gives to a step, and that what a piece, a partial or a span adds keeps it. Assumes nothing.
use mathlib.Core.Path.{◌≡◌, sym, ap, subst, ◌∙◌}
use mathlib.Core.Bool.{Bool, true, false}
use mathlib.Core.List.{List}
use Prim.Native.Nat.{ℕ, ◌+◌, ◌-◌, ◌≤◌, ◌<◌}
use native.Mathlib.Omega.{arith}
use lib.ListN.{length, take, drop, length-take}
use borrow.Author.Tests.{ne_eqb}
use Rattle.model.specs.Lists.{len}
use Rattle.model.specs.State.{DownloadingPiece, Picker, blocks_per_piece}
use Rattle.model.specs.pick.Blocks.{PickRequest, Contiguous, PickState, spent, add_blocks, add_blocks_downloading}
use Rattle.model.specs.image.Sound.{Sound}
use Rattle.pick_laws.proofs.BoundLaws.{sound_fits, small, Lean, Tight}
use Rattle.pick_laws.proofs.AddLaws.{add_blocks-contiguous, downloading_contiguous, Holding, holding_kept}
use Rattle.pick_laws.proofs.OutputLaws.{bounded_kept}
use Rattle.pick_state.specs.declared.numbers.PickNumbers.{PickNumbers}
use Rattle.pick_state.specs.PickStates.{contiguous_of, blocks_between, state_of}
use Rattle.pick_state.specs.Room.{Working, Underway, Worked}
use Rattle.pick_state.proofs.TakeLaws.{each-length, between_length}

-- ---- lengths
-- fewer blocks than places end where they are counted to
between_end : (end : ℕ) (l : List ℕ) → len (blocks_between 0 end l) < length l → end ≤ len (blocks_between 0 end l)
unfolding blocks_between len
between_end end l h =
    let e = each-length (take (end - 0) (drop 0 l)) in
    let f = length-take (end - 0) (drop 0 l) in
    omega arith

-- the accounting of a state
LeanOf : (N R : ℕ) (w : PickState) → Type 0
LeanOf N R w = Lean N R (N + R + 255) w.left (len w.out) (len w.backup) w.contiguous.asked

-- ---- what it gives
module _ {start N R : ℕ} {d : Picker} {t : PickNumbers} {out aside : List ℕ} {ignored : List Bool} {loops : List ℕ}
    (h : Working start N R d t out aside ignored loops) where
  -- what is left, by where the output ends
  pub working_left : t.left ≡ N - (t.end - start)
  unfolding state_of
  working_left = h.roomy.rest ∙ ap (λ (n : ℕ). N - n) (between_length start t.end out h.within)

  -- the numbers are small
  pub working_small : (t.left ≤ 2048) × (t.asked ≤ R) × (t.given ≤ 65536) × (N ≤ 2048) × (R ≤ 2048)
  unfolding state_of contiguous_of
  working_small = let g = h.roomy in let e = working_left in let n = g.wanted in (omega arith, g.asked, g.given, n, g.run)

  pub working_marks : (length ignored ≡ 4096) × (length loops ≡ 7)
  unfolding state_of
  working_marks = let g = h.roomy in (g.marks, g.counters)

  -- where blocks are wanted, those of a piece and of a run can be appended
  pub working_room : 1 ≤ t.left → t.end + R + 256 ≤ length out
  working_room l = let e = working_left in let g = h.roomy.room in let s = h.since in omega arith

  -- the model's bound
  pub working_tight : Sound d → Tight (blocks_per_piece d) N R (N + R + 255) (state_of start d t out aside ignored loops)
  unfolding Tight state_of
  working_tight s =
      let g = h.roomy in
      (sound_fits d s, record { rest = g.rest; few = g.few; backup = g.backup; contiguous = g.asked })

  -- there is room for a piece's blocks among those set aside, where not enough are there
  pub working_aside : (t.aside < length aside) × (t.left + 256 ≤ length aside)
  unfolding state_of
  working_aside =
      let g = h.roomy in
      let b = g.within_aside in
      (omega (arith, between_end t.aside aside b), g.room_aside)

  -- the model's bound on what is set aside, by that room
  pub working_holding : Sound d → Holding (length aside - 256) (state_of start d t out aside ignored loops)
  unfolding state_of
  working_holding s =
      let g = h.roomy in
      let l = g.room_aside in
      let b = g.within_aside in
      record { partials = (sound_fits d s).partials; left = omega arith; few = omega arith }

  -- blocks are wanted
  pub working_unspent : 1 ≤ t.left → spent (state_of start d t out aside ignored loops) ≡ false
  unfolding spent state_of
  working_unspent l = ne_eqb t.left 0 (λ e. omega arith)

  module _ {step : PickState → PickState} {r : PickNumbers} {out' aside' : List ℕ} {ignored' : List Bool} {loops' : List ℕ}
      (w : Worked step d t r out aside ignored loops out' aside' ignored' loops') where
    -- a step within the model's bound keeps the room
    pub working_step : (b : ℕ) → Tight b N R (N + R + 255) (step (state_of start d t out aside ignored loops))
        → Holding (length aside - 256) (step (state_of start d t out aside ignored loops)) → r.given ≤ 65536
        → Working start N R d r out' aside' ignored' loops'
    unfolding Tight LeanOf state_of contiguous_of
    working_step b k q z =
        let g = h.roomy in
        let l = subst (LeanOf N R) (sym (w.did.is start h.since)) k.1 in
        let p = subst (Holding (length aside - 256)) (sym (w.did.is start h.since)) q in
        let e = w.did.long_aside in
        let f = g.room_aside in
        record {
          since = let a = h.since in let c = w.did.kept.rises in omega arith;
          within = w.within;
          roomy = record {
            wanted = g.wanted;
            run = g.run;
            rest = l.rest;
            few = l.few;
            backup = l.backup;
            asked = l.contiguous;
            given = z;
            marks = w.did.long_ignored ∙ g.marks;
            counters = w.did.long_loops ∙ g.counters;
            room = let c = w.did.kept.long in let e = g.room in omega arith;
            room_aside = let x = p.left in omega arith;
            within_aside = let x = p.few in omega arith;
          };
        }

    -- one that leaves the run as it was
    pub working_kept : (b : ℕ) → Tight b N R (N + R + 255) (step (state_of start d t out aside ignored loops))
        → Holding (length aside - 256) (step (state_of start d t out aside ignored loops))
        → (step (state_of start d t out aside ignored loops)).contiguous ≡ (state_of start d t out aside ignored loops).contiguous
        → Working start N R d r out' aside' ignored' loops'
    unfolding state_of contiguous_of
    working_kept b k q e =
        working_step b k q (let x = ap (λ (v : PickState). v.contiguous.given) (w.did.is start h.since) in
        let y = ap (λ (v : Contiguous). v.given) e in let g = h.roomy.given in omega arith)

  -- what a piece adds
  pub working_blocks : (a : PickRequest) (i : ℕ) {r : PickNumbers} {out' aside' : List ℕ} {ignored' : List Bool} {loops' : List ℕ}
      → Sound d → 1 ≤ t.left → Worked (add_blocks a i) d t r out aside ignored loops out' aside' ignored' loops'
      → Working start N R d r out' aside' ignored' loops'
  working_blocks a i s l w =
      let v = state_of start d t out aside ignored loops in
      let b = blocks_per_piece d in
      working_kept w b ((bounded_kept b N R h.roomy.wanted a).piece i v (working_unspent l) (working_tight s))
      ((holding_kept (length aside - 256) a).piece i v (working_unspent l) (working_holding s)) (add_blocks-contiguous a i v)

  -- what a partial adds
  pub working_downloading : (a : PickRequest) (p : DownloadingPiece) {r : PickNumbers} {out' aside' : List ℕ} {ignored' : List Bool} {loops' : List ℕ}
      → Sound d → small p ≡ true → 1 ≤ t.left → Worked (add_blocks_downloading a p) d t r out aside ignored loops out' aside' ignored' loops'
      → Working start N R d r out' aside' ignored' loops'
  working_downloading a p s o l w =
      let v = state_of start d t out aside ignored loops in
      let b = blocks_per_piece d in
      working_kept w b ((bounded_kept b N R h.roomy.wanted a).partial p v o (working_unspent l) (working_tight s))
      ((holding_kept (length aside - 256) a).partial p v o (working_unspent l) (working_holding s)) (downloading_contiguous a p v)

  -- flags, draws and counters do not matter
  pub working_same : (r : PickNumbers) (loops' : List ℕ) → r.left ≡ t.left → r.asked ≡ t.asked → r.given ≡ t.given → r.end ≡ t.end
      → r.aside ≡ t.aside → length loops' ≡ length loops → Working start N R d r out aside ignored loops'
  unfolding state_of contiguous_of
  working_same r loops' el ea eg ee es ll =
      let g = h.roomy in
      record {
        since = let s = h.since in omega arith;
        within = let s = h.within in omega arith;
        roomy = record {
          wanted = g.wanted;
          run = g.run;
          rest = rw (el, ee) g.rest;
          few = rw ee g.few;
          backup = rw es g.backup;
          asked = let x = g.asked in omega arith;
          given = let x = g.given in omega arith;
          marks = g.marks;
          counters = ll ∙ g.counters;
          room = g.room;
          room_aside = rw el g.room_aside;
          within_aside = rw es g.within_aside;
        };
      }

-- ---- for some start
module _ {d : Picker} {t : PickNumbers} {out aside : List ℕ} {ignored : List Bool} {loops : List ℕ} (h : Underway d t out aside ignored loops) where
  -- what a piece adds keeps a pick under way
  pub underway_blocks : (a : PickRequest) (i : ℕ) {r : PickNumbers} {out' aside' : List ℕ} {ignored' : List Bool} {loops' : List ℕ}
      → Sound d → 1 ≤ t.left → Worked (add_blocks a i) d t r out aside ignored loops out' aside' ignored' loops'
      → Underway d r out' aside' ignored' loops'
  underway_blocks a i s l w =
      record { start = h.start; wanted = h.wanted; run = h.run; working = working_blocks h.working a i s l w }

  -- flags, draws and counters do not matter
  pub underway_same : (r : PickNumbers) (loops' : List ℕ) → r.left ≡ t.left → r.asked ≡ t.asked → r.given ≡ t.given → r.end ≡ t.end
      → r.aside ≡ t.aside → length loops' ≡ length loops → Underway d r out aside ignored loops'
  underway_same r loops' el ea eg ee es ll =
      record { start = h.start; wanted = h.wanted; run = h.run; working = working_same h.working r loops' el ea eg ee es ll }
