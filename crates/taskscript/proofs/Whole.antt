-- A whole file: what a tree without faults gives, and what a file that is refused has.
use Rattle.std.proofs.Common.{◌≡◌, ℕ, List, Some, option_map, Result, Ok, Err, sym, ap, ◌∙◌, IfOk, MatchResult}
use Rattle.toml.specs.Data.{Members}
use Rattle.script.specs.File.{MachineData}
use Rattle.taskscript.specs.{declared.fault.FileFault.TheVariants.OutOfMemory, declared.listing.Listed.Listed, declared.refused.Refused.Refused, Faults.Judges, File.refusals, File.machine_of, File.placed_file_of_document, File.placed_file_of, File.file_of, Listings.listing_in, Listings.listing_of, Places.without_place, Records.DocumentFault, Tree.document_of}
use Rattle.execlist.specs.Answers.{fault_or}

pub refused : (bytes : List ℕ) (r : Refused) → DocumentFault r bytes → ¬ (r.fault ≡ OutOfMemory) → placed_file_of bytes ≡ Err r
unfolding placed_file_of
refused bytes r h ne = rw (h ne).0 (ap Err (sym (h ne).1))

abbrev IsRight : Members → Listed → Type 0
IsRight t l = (l.machine ≡ machine_of t) × (l.listing ≡ listing_of t)

-- what a tree gave is what the file of the tree comes to
pub tree_decided : (t : Members) (r : Result Listed Refused) → Judges r (refusals t) (IsRight t)
    → MatchResult r (λ l. placed_file_of_document (Some t) ≡ Ok l.machine) (λ f. ¬ (f.fault ≡ OutOfMemory) → placed_file_of_document (Some t) ≡ Err f)
tree_decided t (Ok l) h = ap (λ fault. fault_or fault (machine_of t)) h.0 ∙ ap Ok (sym h.1.0)
tree_decided t (Err f) h = λ ne. ap (λ fault. fault_or fault (machine_of t)) (h ne)

pub decided : (bytes : List ℕ) (t : Members) (r : Result Listed Refused) → document_of bytes ≡ Some t → Judges r (refusals t) (IsRight t)
    → MatchResult r (λ l. placed_file_of bytes ≡ Ok l.machine) (λ f. ¬ (f.fault ≡ OutOfMemory) → placed_file_of bytes ≡ Err f)
unfolding placed_file_of
decided bytes t (Ok l) d h = ap placed_file_of_document d ∙ tree_decided t (Ok l) h
decided bytes t (Err f) d h = λ ne. ap placed_file_of_document d ∙ tree_decided t (Err f) h ne

pub listed : (bytes : List ℕ) (t : Members) (r : Result Listed Refused) → document_of bytes ≡ Some t → Judges r (refusals t) (IsRight t) → IfOk r (λ l. listing_in bytes ≡ Some l.listing)
unfolding listing_in
listed bytes t (Ok l) d h = ap (option_map listing_of) d ∙ ap Some (sym h.1.1)
listed bytes t (Err f) d h = tt

-- without its place, what a file came to is the same
pub placed_is : (bytes : List ℕ) (r : Result MachineData Refused) → placed_file_of bytes ≡ r → file_of bytes ≡ without_place r
unfolding file_of
placed_is bytes r h = ap without_place h
