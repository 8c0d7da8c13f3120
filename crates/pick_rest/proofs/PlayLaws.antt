-- The turns of the end game: as many as there are pieces, or up to the block found. Assumes nothing.
use mathlib.Core.Path.{◌≡◌, refl, sym, ap, ◌∙◌}
use mathlib.Core.Bool.{Bool, true, false, true≢false, not, ◌&&◌, ◌||◌}
use mathlib.Core.List.{List}
use Prim.Native.Nat.{ℕ, zero, suc, ◌+◌, ◌-◌, ◌*◌, ◌≤◌, ◌<◌}
use native.Mathlib.Omega.{arith}
use lib.Dec.{eqb, ltb}
use lib.ListN.{length, take}
use borrow.Author.Tests.{ltb-true, ltb-false, eq-eqb, ne_eqb, not-true}
use Rattle.model.specs.Lists.{bit, nth, each, unless, repeat}
use Rattle.model.specs.State.{Picker}
use Rattle.model.specs.Options.{busy_loops}
use Rattle.model.specs.list.Order.{Draws}
use Rattle.model.specs.pick.Pick.{EndGame, full_partials, end_game_step, end_game_done, pick_end_game}
use Rattle.model.proofs.base.Truths.{and_left, and_right}
use Rattle.memory_layout.specs.Changes.{partial_in}
use Rattle.pick_state.specs.declared.numbers.PickNumbers.{PickNumbers}
use Rattle.pick_state.specs.declared.request.PickRequest.{PickRequest as Request}
use Rattle.pick_state.specs.Requests.{request_of}
use Rattle.pick_state.specs.PickStates.{state_of, OutKept}
use Rattle.pick_state.proofs.DidLaws.{kept_none, kept_then}
use Rattle.pick_busy.specs.Full.{PlacesIn}
use Rattle.pick_rest.specs.declared.game.Game.{Game}
use Rattle.pick_rest.specs.Game.{CountRoom, game_of, GameDid, EndGameDid}
use Rattle.pick_rest.proofs.GameLaws.{these_number}

-- ---- turns
module _ {S : Type 0} (turn : S → S) (done : S → Bool) where
  stays : (n : ℕ) (s : S) → done s ≡ true → repeat n turn done s ≡ s
  unfolding repeat unless
  stays zero s e = refl
  stays (suc n) s e = ap (λ (b : Bool). unless b (λ t. repeat n turn done (turn t)) s) e

  goes : (n : ℕ) (s : S) → done s ≡ false → repeat (suc n) turn done s ≡ repeat n turn done (turn s)
  unfolding repeat unless
  goes n s e = ap (λ (b : Bool). unless b (λ t. repeat n turn done (turn t)) s) e

-- the loop's test
over : (found : Bool) (many : ℕ) → (not found && ltb 0 many) ≡ false → (found || eqb many 0) ≡ true
over true many h = refl
over false many h = eq-eqb many 0 (let l = ltb-false 0 many h in omega arith)

-- each turn leaves fewer pieces, or finds a block
pub play_less : (found : Bool) (many : ℕ) → (not found && ltb 0 many) ≡ true → (found' : Bool) (many' : ℕ) → (found' ≡ false → many' ≡ many - 1)
    → many' ≤ many → many' + bit (not found') < many + bit (not found)
play_less true many h found' many' f l = absurd (true≢false (sym h))
play_less false many h true many' f l = omega arith
play_less false many h false many' f l = let e = f refl in let s = ltb-true 0 many h in omega arith

pub play_wide : {m n : ℕ} → m ≡ 7 → n ≡ 7 → m ≡ n
play_wide e f = e ∙ sym f

-- ---- where it stands
pub record Playing (draws : Draws) (q : Request) (bytes : List ℕ) (d : Picker) (live : ℕ) (t cur : PickNumbers) (many : ℕ) (found : Bool)
    (row out out₁ loops loops₁ : List ℕ) : Type 0 where
  pub turns : ℕ
  pub is : (start : ℕ) (aside : List ℕ) (ignored : List Bool) → start ≤ t.end
      → repeat turns (end_game_step draws (request_of q bytes)) end_game_done (game_of start d cur many found row out₁ aside ignored loops₁)
      ≡ repeat 200 (end_game_step draws (request_of q bytes)) end_game_done
      (record { work = state_of start d t out aside ignored loops; pieces = full_partials (request_of q bytes) d; found = false })
  pub enough : found ≡ false → many ≤ turns
  pub kept : OutKept t cur out out₁
  pub few : cur.end ≤ t.end + 1
  pub still : found ≡ false → cur.end ≡ t.end
  pub used : cur.used + 2 * turns ≤ t.used + 400
  pub places : PlacesIn live many row
  pub wide : length loops₁ ≡ 7
  pub room : nth 0 loops₁ busy_loops + turns ≤ nth 0 loops busy_loops + 200

module _ (draws : Draws) (q : Request) (bytes : List ℕ) (d : Picker) (live : ℕ) (t : PickNumbers) (out loops : List ℕ) where
  pub play_start : (n : ℕ) (row : List ℕ) → each (partial_in d) (take n row) ≡ full_partials (request_of q bytes) d → PlacesIn live n row → n ≤ 200
      → CountRoom 200 loops → Playing draws q bytes d live t t n false row out out loops loops
  unfolding game_of
  play_start n row e p few c = record {
    turns = 200;
    is = λ start aside ignored s.
        λ m. repeat 200 (end_game_step draws (request_of q bytes)) end_game_done
        (record { work = state_of start d t out aside ignored loops; pieces = e m; found = false });
    enough = λ f. few;
    kept = kept_none t out;
    few = omega arith;
    still = λ f. refl;
    used = omega arith;
    places = p;
    wide = c.wide;
    room = omega arith;
  }

  module _ (cur : PickNumbers) (many : ℕ) (found : Bool) (row out₁ loops₁ : List ℕ)
      (g : Playing draws q bytes d live t cur many found row out out₁ loops loops₁) where
    done_is : (start : ℕ) (aside : List ℕ) (ignored : List Bool)
        → end_game_done (game_of start d cur many found row out₁ aside ignored loops₁) ≡ (found || eqb many 0)
    unfolding end_game_done game_of
    done_is start aside ignored =
        let a = g.places.few in
        let b = g.places.long in
        ap (λ (n : ℕ). found || eqb n 0) (these_number d row many (omega arith))

    -- what a turn asks for
    pub play_room : (not found && ltb 0 many) ≡ true → t.end < length out → t.used + 401 < 4294967296 → CountRoom 200 loops → {X : Type 0} → X
        → X × (((cur.end < length out₁) × (cur.used < 4294967295) × CountRoom 1 loops₁) × ((0 < many) × PlacesIn live many row))
    play_room h l u c x =
        let f = not-true found (and_left (not found) (ltb 0 many) h) in
        let s = ltb-true 0 many (and_right (not found) (ltb 0 many) h) in
        let e = g.enough f in
        let a = g.still f in
        let b = g.kept.long in
        let v = g.used in
        let r = g.room in
        let w = c.room in
        (x, ((omega arith, omega arith, record { wide = g.wide; room = omega arith }), (s, g.places)))

    -- a turn is made
    pub play_next : (not found && ltb 0 many) ≡ true → (x : Game) (row₂ out₂ loops₂ : List ℕ)
        → GameDid draws q d live cur many x row row₂ out₁ out₂ loops₁ loops₂
        → Playing draws q bytes d live t x.t x.many x.found row₂ out out₂ loops loops₂
    play_next h x row₂ out₂ loops₂ y = go g.turns (λ start aside ignored s. g.is start aside ignored s) (g.enough no_found) g.used g.room
      where
        no_found : found ≡ false
        no_found = not-true found (and_left (not found) (ltb 0 many) h)

        some : 0 < many
        some = ltb-true 0 many (and_right (not found) (ltb 0 many) h)

        go : (n : ℕ)
            → ((start : ℕ) (aside : List ℕ) (ignored : List Bool) → start ≤ t.end
            → repeat n (end_game_step draws (request_of q bytes)) end_game_done (game_of start d cur many found row out₁ aside ignored loops₁)
            ≡ repeat 200 (end_game_step draws (request_of q bytes)) end_game_done
            (record { work = state_of start d t out aside ignored loops; pieces = full_partials (request_of q bytes) d; found = false }))
            → many ≤ n → cur.used + 2 * n ≤ t.used + 400 → nth 0 loops₁ busy_loops + n ≤ nth 0 loops busy_loops + 200
            → Playing draws q bytes d live t x.t x.many x.found row₂ out out₂ loops loops₂
        go zero f m u r = let z = some in absurd (omega arith)
        go (suc n) f m u r =
            let z = y.turned in
            let e = g.still no_found in
            record {
              turns = n;
              is = λ start aside ignored s.
                  let v = g.kept.rises in
                  let G : Bool → EndGame = λ b. game_of start d cur many b row out₁ aside ignored loops₁ in
                  ap (repeat n (end_game_step draws (request_of q bytes)) end_game_done) (y.is bytes start aside ignored (omega arith)
                  ∙ ap (λ (b : Bool). end_game_step draws (request_of q bytes) (G b)) (sym no_found))
                  ∙ sym (goes (end_game_step draws (request_of q bytes)) end_game_done n (G found) (done_is start aside ignored
                  ∙ (λ k. no_found k || ne_eqb many 0 (λ w. let l = some in omega arith) k)))
                  ∙ f start aside ignored s;
              enough = λ w. let l = z.fewer w in let i = some in omega arith;
              kept = kept_then g.kept z.kept;
              few = let l = z.few in omega arith;
              still = λ w. z.still w ∙ e;
              used = let l = y.used in omega arith;
              places = z.places live g.places;
              wide = y.counters ∙ g.wide;
              room = let l = y.counted in omega arith;
            }

    -- no turn is left
    pub play_end : (not found && ltb 0 many) ≡ false → t.end < length out → CountRoom 200 loops
        → EndGameDid draws (request_of q bytes) d t cur out out₁ loops loops₁
    unfolding pick_end_game game_of state_of
    play_end h l c = record {
      worked = λ aside ignored. record {
        did = record {
          is = λ start s.
              ap (λ (x : EndGame). x.work) (sym (stays (end_game_step draws (request_of q bytes)) end_game_done g.turns
              (game_of start d cur many found row out₁ aside ignored loops₁) (done_is start aside ignored ∙ over found many h))
              ∙ g.is start aside ignored s);
          kept = g.kept;
          long_aside = refl;
          long_ignored = refl;
          long_loops = g.wide ∙ sym c.wide;
        };
        within = let a = g.few in let b = g.kept.long in omega arith;
      };
    }
