-- What is seen of the block that has a tag.
use Rattle.std.proofs.Common.{ap, sym, ◌∙◌, Some, option_map}
use Rattle.execheap.specs.{Numbered.Numbered, Table.begins_at}
use Rattle.execheap.proofs.BlockViews.{block_seen, seen_by}
use Rattle.execheap.proofs.objects.Objects.block.Goals as goal

pub returns-in-None : goal.returns-in-None
returns-in-None g c =
    ap (option_map (seen_by c.args.self.now)) (sym c.in-None.is)
    ∙ block_seen c.args.self.now c.args.address c.begins_at.result (c.begins_at.ensures ∙ ap (λ (s : Numbered). begins_at c.args.address s.table) c.self.view_is)

pub returns-in-Some : goal.returns-in-Some
returns-in-Some g c =
    ap (λ v. Some (record { size = c.in-Some.size; object = v })) c.view_of.ensures
    ∙ ap (option_map (seen_by c.args.self.now)) (sym c.in-Some.is)
    ∙ block_seen c.args.self.now c.args.address c.begins_at.result (c.begins_at.ensures ∙ ap (λ (s : Numbered). begins_at c.args.address s.table) c.self.view_is)
