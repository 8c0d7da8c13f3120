-- Texts written one after another, the lines of words as those of blocks, and the answer to what was read. Assumes nothing.
use Rattle.std.proofs.Common.{◌≡◌, ℕ, List, [], ◌∷◌, ◌++◌, Some, None, IfSome, Result, Ok, Err, OnOk, refl, sym, ap, ◌∙◌, subst, length, get_or, take, ◌+◌, ◌-◌, ◌<◌, min, arith}
use Rattle.std.proofs.lemmas.List.{take_more, flat_map_more, take_min}
use Rattle.std.specs.declared.option.Option.{Option}
use Rattle.std.specs.List.{flat_map}
use Rattle.std.specs.Io.KnownBytes.{Appends}
use Rattle.std.proofs.KnownBytes.{Appends-trans}
use Rattle.model.specs.Lists.{each}
use Rattle.model.specs.Calls.{Answer}
use Rattle.model.specs.image.Program.{program}
use Rattle.pick_state.specs.PickStates.{block_from, blocks_between}
use Rattle.pick.specs.Printed.{block_line, printed}

-- a text, and then the last one where it was written
pub then_more : {X E : Type 0} (r : Result X E) (a b c : Option (List ℕ)) (bs cs all : List ℕ) → bs ++ cs ≡ all → Appends a b bs
    → OnOk r (Appends b c cs) → OnOk r (Appends a c all)
then_more (Ok x) a b c bs cs all e p q = subst (Appends a c) e (Appends-trans a b c bs cs p q)
then_more (Err x) a b c bs cs all e p q = tt

-- the line of a word
abbrev pub word_line : ℕ → List ℕ
word_line w = block_line (block_from w)

-- one word more
pub lines_more : (ws : List ℕ) (i : ℕ) → i < length ws → flat_map word_line (take i ws) ++ word_line (get_or ws i 0) ≡ flat_map word_line (take (i + 1) ws)
lines_more ws i h = flat_map_more word_line [] (take i ws) (get_or ws i 0) ∙ ap (flat_map word_line) (sym (take_more ws i 0 h))

lines_each : (ws : List ℕ) → flat_map word_line ws ≡ flat_map block_line (each block_from ws)
unfolding each
lines_each [] = refl
lines_each (w ∷ ws) = ap (λ (l : List ℕ). word_line w ++ l) (lines_each ws)

-- the first words of the output as its blocks
pub lines_between : (out : List ℕ) (end n : ℕ) → n ≡ min end (length out) → flat_map word_line (take n out) ≡ flat_map block_line (blocks_between 0 end out)
unfolding blocks_between
lines_between out end n e =
    let whole : end ≡ end - 0 = omega arith in
    ap (λ (m : ℕ). flat_map word_line (take m out)) e ∙ ap (flat_map word_line) (take_min end out) ∙ lines_each (take end out)
    ∙ ap (λ (m : ℕ). flat_map block_line (each block_from (take m out))) whole

-- an answer to bytes that were read
pub answered : {X E : Type 0} (r : Result X E) (known a c : Option (List ℕ)) (bytes : List ℕ) (long n : ℕ) → n ≡ long
    → IfSome known (λ (xs : List ℕ). bytes ≡ take long xs) → (t : Answer) → t ≡ program bytes → OnOk r (Appends a c (printed t))
    → OnOk r (IfSome known (λ (xs : List ℕ). Appends a c (printed (program (take n xs)))))
answered (Err x) known a c bytes long n same read t told p = tt
answered (Ok x) None a c bytes long n same read t told p = tt
answered (Ok x) (Some xs) a c bytes long n same read t told p =
    subst (λ (u : Answer). Appends a c (printed u)) (told ∙ ap program (read ∙ ap (λ (m : ℕ). take m xs) (sym same))) p
