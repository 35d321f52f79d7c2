-- Lemmas on documents.
use Rattle.std.proofs.Common.{◌≡◌, ℕ, Bool, true, false, cond, List, Option, Some, None, refl, IsUtf8}
use Rattle.std.specs.Str.{is_utf8}
use Rattle.std.proofs.lemmas.Str.{IsUtf8-from_is_utf8, is_utf8-from_IsUtf8}
use Rattle.toml.specs.Data.{Members}
use Rattle.toml.specs.Parse.{parse_document}
use Rattle.taskscript.specs.Tree.{document_of}

either_none : {A : Type 0} (b : Bool) (o : Option A) → (b ≡ true → o ≡ None) → cond b o None ≡ None
either_none true o h = h refl
either_none false o h = refl

pub no_document : (bytes : List ℕ) → (IsUtf8 bytes → parse_document bytes ≡ None) → document_of bytes ≡ None
no_document bytes h = either_none (is_utf8 bytes) (parse_document bytes) (λ e. h (IsUtf8-from_is_utf8 bytes e))

pub a_document : (bytes : List ℕ) (t : Members) → IsUtf8 bytes → parse_document bytes ≡ Some t → document_of bytes ≡ Some t
a_document bytes t u h = rw (is_utf8-from_IsUtf8 bytes u) h
