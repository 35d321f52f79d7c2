-- What is seen of a block, reported by its tag.
use Rattle.std.proofs.Common.{◌≡◌, ℕ, ◌≤◌, List, [], ◌∷◌, zero, suc, length, refl, ap, sym, ◌∙◌, arith, Option, None, Some, slice_index_or, option_map}
use Rattle.memlist.specs.Blocks.{block_at}
use Rattle.execmodel.specs.Places as model
use Rattle.execheap.specs.{declared.tag.Tagged.Tagged, declared.view.BlockView.BlockView, BlockViews.block_view, BlockViews.object_view, Tags.tagged, Table.begins_at, Numbered.Numbered, Numbered.shown_block, Numbered.shown_heap, Numbered.shown_tagged}
use Rattle.execheap.proofs.Showing.{block_shown}

-- what is seen of a block, by its size and what begins there
abbrev pub seen_by : Numbered → ℕ × Tagged → BlockView
seen_by s begins = record { size = begins.0; object = object_view (shown_tagged s begins.1) }

pub block_seen : (s : Numbered) (a : ℕ) (found : Option (ℕ × Tagged)) → found ≡ begins_at a s.table
    → option_map (seen_by s) found ≡ option_map block_view (model.block_at a (shown_heap s))
block_seen s a found is =
    ap (option_map (seen_by s)) is ∙ both (block_at a s.table.memory.blocks) ∙ ap (option_map block_view) (sym (block_shown s a))
  where
    both : (o : Option (ℕ × ℕ)) → option_map (seen_by s) (option_map (λ (block : ℕ × ℕ). (block.0, tagged block.1)) o)
        ≡ option_map block_view (option_map (shown_block s) o)
    both None = refl
    both (Some block) = refl

-- there is nothing past the last
pub beyond : {A : Type 0} (xs : List A) (i : ℕ) (d : A) → length xs ≤ i → slice_index_or xs i d ≡ d
beyond [] i d far = refl
beyond (x ∷ xs) zero d far = absurd (omega (arith, far))
beyond (x ∷ xs) (suc i) d far = beyond xs i d (omega (arith, far))
