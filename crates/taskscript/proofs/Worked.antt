-- Worked texts, computed from the definitions alone.
use Rattle.std.proofs.Common.{◌≡◌, codes, ◌++◌, ◌∷◌, [], Ok, Err, refl}
use Rattle.memlist.specs.Regions.{regions_fault}
use Rattle.std.specs.Str.{is_utf8, chars}
use Rattle.toml.proofs.OnLiterals.{toml_on_literals}
use Rattle.taskscript.specs.declared.fault.EventFault.TheVariants.{BadLine, TooMany}
use Rattle.taskscript.specs.declared.fault.FileFault.TheVariants.{UnknownKey, MissingKey}
use Rattle.script.specs.declared.event.Event.TheVariants.{Run}
use Rattle.taskscript.specs.{Events.event_of, Events.script_of, declared.place.TablePlace.TheVariants.Item, File.file_of, File.placed_file_of, Places.key_at, Places.refused}
use Rattle.taskscript.specs.declared.place.Array.TheVariants as array
use Rattle.taskscript.specs.declared.place.Key.TheVariants as key

two_runs : script_of (codes "run 2" ++ 10 ∷ codes "# run 3" ++ 10 ∷ codes "run 4") ≡ Ok (Run 2 ∷ Run 4 ∷ [])
unfolding script_of event_of
two_runs = refl

no_word : script_of (codes "run 1" ++ 10 ∷ codes "tic") ≡ Err (BadLine 2)
unfolding script_of event_of
no_word = refl

too_many_steps : script_of (codes "run 1000000" ++ 10 ∷ codes "run 1") ≡ Err TooMany
unfolding script_of event_of
too_many_steps = refl

unknown_key : file_of (codes "speed = 1") ≡ Err UnknownKey
unfolding file_of placed_file_of toml_on_literals is_utf8 chars
unknown_key = refl

no_code : file_of (codes "[[task]]" ++ 10 ∷ codes "name = 'a'") ≡ Err MissingKey
unfolding file_of placed_file_of toml_on_literals is_utf8 chars regions_fault
no_code = refl

-- and where it lacks
no_code_there : placed_file_of (codes "[[task]]" ++ 10 ∷ codes "name = 'a'") ≡ Err (refused (key_at (Item array.Task 0) key.Code) MissingKey)
unfolding placed_file_of toml_on_literals is_utf8 chars regions_fault
no_code_there = refl
