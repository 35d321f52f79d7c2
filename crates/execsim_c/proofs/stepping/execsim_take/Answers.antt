-- The proof of `execsim_take`: the lines are moved, and none is left.
use Rattle.std.proofs.Common.{◌∙◌, ℕ, List, ◌++◌, drop, length, ap, sym, vec_len}
use Rattle.execsim_c.specs.declared.session.Session.{Session}
use Rattle.execsim_c.proofs.stepping.execsim_take.Goals as goal

pub returns-clause-taken : goal.returns-clause-taken
returns-clause-taken c = λ _.
    let old = c.in-Some.session.value in
    let bytes = c.as_slice.ensures.value ∙ ap (λ (s : Session). s.lines.items) c.deref-3.ensures in
    let count = λ (s : Session). vec_len s.lines in
    let long = c.len.ensures ∙ (ap count c.deref.ensures ∙ (sym (c.as_slice.ensures.len ∙ ap count c.deref-3.ensures) ∙ ap length bytes)) in
    record {
      old = old;
      new = _;
      held = sym c.in-Some.ensures.taken;
      holds = c.put-3.ensures;
      same = ap (λ (s : Session). s.machine) c.deref_mut.ensures.value;
      none_left = c.clear.ensures.items;
      long = long;
      moved = c.put-2.ensures
          ∙ (ap (λ (l : List ℕ). l ++ drop (length l) c.args.out.now) bytes ∙ ap (λ (n : ℕ). old.lines.items ++ drop n c.args.out.now) (sym long));
    }
