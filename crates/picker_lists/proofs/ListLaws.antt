-- The cores of questions that fill a lent list, arm by arm: refused, or answered. Assumes nothing.
use Rattle.std.specs.Prelude.{Err, None, Ok, Option as Optional, Result, Some}
use mathlib.Core.Path.{◌≡◌, refl}
use mathlib.Core.List.{List}
use mathlib.Core.Option.{Option}
use Prim.Native.Nat.{ℕ, ◌*◌, ◌/◌, ◌≤◌}
use mir.ValLaws.{to_z-of_z}
use native.Mathlib.Omega.{arith}
use Rattle.types.specs.declared.refusal.Refusal.{Refusal}
use Rattle.model.specs.State.{Picker}
use Rattle.model.specs.ask.Questions.{Question, Reply, reply, nothing}
use Rattle.memory_layout.specs.declared.shape.Shape.{Shape}
use Rattle.memory_rows.specs.Lookup.{picker_in}
use Rattle.ask_columns.specs.Filled.{Told}
use Rattle.ask_records.specs.Records.{Written}
use Rattle.ask_records.specs.Answers.{blocks_reply, records_in as written}
use Rattle.picker_answers.specs.declared.admitted.Admitted.{Admitted}
use Rattle.picker_answers.specs.Admitting.{Ruled, AdmittedBy}
use Rattle.picker_calls.proofs.PublicLaws.{live_fits, rows_are}
use Rattle.picker_answers.proofs.AdmittedLaws.{question_refused, question_replied}
use Rattle.picker_lists.specs.Listing.{tell_blocks, CoreListed}

-- nothing written
nothing_written : (w : ℕ) (out : List ℕ) → Written w 0 out out
nothing_written w out = record { long = refl; behind = λ k h. refl }

module _ (rule : Picker → Option Refusal) (Fits : Shape → Type 0) (words cells rows counts : List ℕ) (lent : ℕ) (v : Result Admitted Refusal)
    (g : AdmittedBy rule Fits words cells rows counts lent v) (q asked : Question) (same : q ≡ asked) (ruled : Ruled rule q)
    (w : ℕ) (tell : ℕ → List ℕ → Reply) (before : List ℕ) where
  pub list_refused : (why : Refusal) → v ≡ Err why → CoreListed w tell words cells rows lent asked before before (Err why)
  list_refused why e =
      let h = question_refused rule Fits words cells rows counts lent v g q asked same ruled why e in
      record { is = λ partials l r. record { answer = h.is partials l r; written = nothing_written w before } }

  module _ (a : Admitted) (e : v ≡ Ok a) (after : List ℕ) where
    pub list_replied : (n : ℕ) → tell n after ≡ reply (picker_in a.live rows words cells) q → Written w n before after
        → CoreListed w tell words cells rows lent asked before after (Ok (Some n))
    list_replied n t h =
        let x = question_replied rule Fits words cells rows counts lent v g q asked same ruled a e (tell n after) t in
        record { is = λ partials l r. record { answer = x.is partials l r; written = h } }

    pub list_nothing : nothing ≡ reply (picker_in a.live rows words cells) q → Written w 0 before after
        → CoreListed w tell words cells rows lent asked before after (Ok None)
    list_nothing t h =
        let x = question_replied rule Fits words cells rows counts lent v g q asked same ruled a e nothing t in
        record { is = λ partials l r. record { answer = x.is partials l r; written = h } }

-- blocks, or nothing
module _ (rule : Picker → Option Refusal) (Fits : Shape → Type 0) (words cells rows counts : List ℕ) (lent : ℕ) (v : Result Admitted Refusal)
    (g : AdmittedBy rule Fits words cells rows counts lent v) (q asked : Question) (same : q ≡ asked) (ruled : Ruled rule q)
    (before : List ℕ) (a : Admitted) (e : v ≡ Ok a) (after : List ℕ) where
  pub blocks_replied : (x : Optional ℕ) → blocks_reply after x ≡ reply (picker_in a.live rows words cells) q
      → Written 4 (written x) before after → CoreListed 4 tell_blocks words cells rows lent asked before after (Ok x)
  unfolding blocks_reply tell_blocks
  blocks_replied (Some n) t h =
      list_replied rule Fits words cells rows counts lent v g q asked same ruled 4 tell_blocks before a e after n t h
  blocks_replied None t h =
      list_nothing rule Fits words cells rows counts lent v g q asked same ruled 4 tell_blocks before a e after t h

-- records that the places lent have room for
pub room_two : (k n : ℕ) → k ≤ n / 2 → 2 * k ≤ n
room_two k n h = omega arith

pub room_four : (k n : ℕ) → k ≤ n / 4 → 4 * k ≤ n
room_four k n h = omega arith

pub room_seven : (k n : ℕ) → k ≤ n / 7 → 7 * k ≤ n
room_seven k n h = omega arith

-- a number for each piece
pub column_written : (s : Shape) (words cells : List ℕ) (field : Picker → Reply) (before after : List ℕ)
    → Told s words cells field before after → Written 1 s.pieces before after
column_written s words cells field before after t =
    record { long = t.long; behind = λ k h. t.behind k (omega arith) }

-- what the proofs of public lists cite
pub ruleset public_lists = (live_fits, rows_are, to_z-of_z, list_refused)
