-- The proof of `Kernel::evaluate_all`: puts the values of that many arguments of a command for task t where they are to
-- be; what is past them is unused.
use Rattle.std.proofs.Common.{◌≡◌, ◌<◌, ℕ, arith, length, map, subst, take, length-set}
use Rattle.std.proofs.lemmas.List.{get_or_default}
use Rattle.exectrace.specs.Short.{short_argument}
use Rattle.execmodel.specs.Calls.{evaluated}
use Rattle.script.specs.Commands.{argument_view}
use Rattle.execsim.proofs.Calling.{shown_one_more}
use Rattle.execsim.proofs.kernel.Kernel.evaluate_all.Goals as goal

pub loop-k-preserved : goal.loop-k-preserved
loop-k-preserved g c =
    let there : c.loop-k.k < length c.args.arguments.now = omega (arith, c.loop-k-test.true, c.requires.few, c.told-arguments) in
    let room : c.loop-k.k < length c.loop-k.values = omega (arith, c.loop-k-test.true, c.requires.few, c.loop-k.invariant.four) in
    record {
      four = simp length-set c.loop-k.invariant.four;
      made = λ name. shown_one_more (λ a. evaluated c.args.t c.args.self.now.scripts (argument_view name a)) (short_argument name)
          c.args.arguments.now c.loop-k.values c.loop-k.k _ _ there room (get_or_default c.args.arguments.now c.loop-k.k _ _ there) (c.evaluate.ensures name)
          (c.loop-k.invariant.made name);
    }

pub returns : goal.returns
returns g c = λ name.
    let all : c.loop-k.k ≡ c.args.count = omega (arith, c.loop-k-test.false, c.loop-k.auto) in
    subst (λ (n : ℕ). map (short_argument name) (take n c.loop-k.values) ≡ map (λ a. evaluated c.args.t c.args.self.now.scripts (argument_view name a)) (take n c.args.arguments.now))
    all (c.loop-k.invariant.made name)
