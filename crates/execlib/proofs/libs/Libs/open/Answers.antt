-- The library that is opened is, after the others were asked for memory, open as often as before.
use Rattle.std.proofs.Common.{ap, sym, subst, ◌∙◌, not, nat_eq, IsTrue}
use Rattle.std.specs.Option.{option_map_or}
use Rattle.execlib.specs.{declared.library.Loaded.Loaded, Libraries.Libraries, Libraries.count_of, Libraries.lent, Libraries.most_openings}
use Rattle.execlib.proofs.Asking.{ready_loaded}
use Rattle.execlib.proofs.libs.Libs.open.Goals as goal

pub enter-requires : goal.enter-requires
enter-requires g c =
    let i = c.in_ok-i.i in
    let before = lent c.args.self.now c.args.memory.now in
    let counted = ap (λ (m : Libraries). count_of i m) c.base_for.ensures.libraries ∙ ap (λ o. option_map_or (λ (l : Loaded). l.count) o 0) (ready_loaded i before) in
    subst (λ n. IsTrue (not (nat_eq n most_openings))) (sym counted) c.in_ok-i.ensures.rarely
