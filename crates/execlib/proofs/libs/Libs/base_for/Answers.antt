-- A library that is absent takes its block after the others were asked for memory; the others do not load it.
use Rattle.std.proofs.Common.{ap, sym, ◌∙◌, Some}
use Rattle.memlist.specs.{Fit.fit, Memory.allocated}
use Rattle.execlib.specs.Libraries.{Lent, after_asking, library_at, lent, public_memory}
use Rattle.execlib.proofs.Asking.{base_absent, base_there, loads_absent, loads_there, ready_absent, ready_there}
use Rattle.execlib.proofs.libs.Libs.base_for.Goals as goal

pub returns-in-None : goal.returns-in-None
returns-in-None g c =
    let i = c.args.i in
    let before = lent c.args.self.now c.args.memory.now in
    let absent = sym c.loaded_at.ensures ∙ c.in-None.is in
    let sized = c.size_of-size.ensures in
    record {
      value = c.alloc_mem.ensures.answer
          ∙ ap (λ n. fit c.args.memory.now.regions (after_asking n public_memory before).memory.blocks n public_memory) sized
          ∙ sym (base_absent i before absent);
      libraries = c.alloc_mem.ensures.libraries
          ∙ ap (λ n. (after_asking n public_memory before).libraries) sized
          ∙ ap (λ (l : Lent). l.libraries) (sym (ready_absent i before absent));
      memory = c.alloc_mem.ensures.memory
          ∙ ap (λ n. allocated n c.tag_of-tag.result c.alloc_mem.result (after_asking n public_memory before).memory) sized
          ∙ ap (λ tag. allocated (library_at i c.args.self.now).size tag c.alloc_mem.result (after_asking (library_at i c.args.self.now).size public_memory before).memory) c.tag_of-tag.ensures
          ∙ sym (loads_absent i before absent c.alloc_mem.result);
    }

pub returns-in-Some : goal.returns-in-Some
returns-in-Some g c =
    let i = c.args.i in
    let before = lent c.args.self.now c.args.memory.now in
    let there = sym c.loaded_at.ensures ∙ c.in-Some.is in
    record {
      value = sym (base_there i before c.in-Some.loaded there);
      libraries = ap (λ (l : Lent). l.libraries) (sym (ready_there i before c.in-Some.loaded there));
      memory = sym (loads_there i before c.in-Some.loaded there (Some c.in-Some.loaded.base));
    }
