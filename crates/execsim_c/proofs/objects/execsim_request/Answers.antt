-- The proof of `execsim_request`: the request is shown if one is there, and the machine stays as it is.
use Rattle.std.proofs.Common.{◌∙◌, Option, ap, sym, option_map}
use Rattle.std.specs.Prelude.{option_and_then}
use Rattle.execheap.specs.{BlockViews.block_view, declared.view.BlockView.BlockView}
use Rattle.execmodel.specs.Memory.{block_at}
use Rattle.execsim_c.specs.{Objects.request_in, Objects.request_shown, declared.session.Session.Session}
use Rattle.execsim_c.proofs.objects.execsim_request.Goals as goal

pub returns-in-Some-found-clause-shown : goal.returns-in-Some-found-clause-shown
returns-in-Some-found-clause-shown c = λ _. record {
  session = c.in-Some.session.value;
  held = sym c.in-Some.ensures.taken;
  same = c.put.ensures ∙ c.in-Some.ensures.taken;
  shown = sym (c.shown_in-found.ensures
      ∙ ap (λ (b : Option BlockView). option_map request_shown (option_and_then (λ (view : BlockView). request_in view.object) b))
      (c.block.ensures ∙ ap (λ (s : Session). option_map block_view (block_at c.args.address s.machine.seen.memory.heap)) c.deref.ensures))
      ∙ c.in-Some-found.is;
}

pub returns-in-None-found-clause-none : goal.returns-in-None-found-clause-none
returns-in-None-found-clause-none c = λ _. record {
  session = c.in-Some.session.value;
  held = sym c.in-Some.ensures.taken;
  same = c.put.ensures ∙ c.in-Some.ensures.taken;
  shown = sym (c.shown_in-found.ensures
      ∙ ap (λ (b : Option BlockView). option_map request_shown (option_and_then (λ (view : BlockView). request_in view.object) b))
      (c.block.ensures ∙ ap (λ (s : Session). option_map block_view (block_at c.args.address s.machine.seen.memory.heap)) c.deref.ensures))
      ∙ c.in-None-found.is;
}
