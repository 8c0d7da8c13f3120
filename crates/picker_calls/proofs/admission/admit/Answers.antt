-- `admit` meets its contract. Assumes nothing.
use Rattle.picker_calls.proofs.AdmissionLaws.{refused_verdict, good_long, good_geometry, good_stood}
use Rattle.picker_calls.proofs.admission.admit.Goals as goal

pub returns-in_err-check_memory : goal.returns-in_err-check_memory
returns-in_err-check_memory c = let k = c.check_memory in
    refused_verdict _ _ _ _ _ k.result k.ensures _ c.in_err-check_memory.was c.from_residual.result c.from_residual.ensures.1

pub shape_of-requires : goal.shape_of-requires
shape_of-requires c = let k = c.check_memory in
    record {
      in_bounds = good_long _ _ _ _ _ k.result k.ensures c.in_ok-check_memory.was;
      words_value = good_geometry _ _ _ _ _ k.result k.ensures c.in_ok-check_memory.was;
    }

pub returns : goal.returns
returns c = let k = c.check_memory in
    good_stood _ _ _ _ _ k.result k.ensures c.in_ok-check_memory.was c.shape_of.result c.shape_of.ensures c.requires.0
