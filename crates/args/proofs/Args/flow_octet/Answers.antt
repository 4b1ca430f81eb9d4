use native.Mathlib.Omega.{arith}
use Rattle.rules.specs.Args.{args_at}
use Rattle.args.specs.Value.{value}
use Rattle.args.proofs.Args.flow_octet.Goals as goal

pub overflow_mul-result : goal.overflow_mul-result
unfolding value args_at
overflow_mul-result c = omega arith

pub overflow_add-result : goal.overflow_add-result
unfolding value args_at
overflow_add-result c = omega arith
