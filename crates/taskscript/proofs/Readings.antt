-- What a line says is what the code reads from it.
use Rattle.std.proofs.Common.{◌≡◌, ℕ, List, Some, None, sym, ◌∙◌}
use Rattle.taskscript.specs.{Lines.fields, Lines.LineData, Meaning.meaning, Meaning.line_meaning, Parsing.line_of, Says.Says, Says.Meaning, Reader.answer_is_read, Reader.said_line_is_read, Reader.read_line_is_said}

pub says_is_read : (line : List ℕ) → line_meaning line ≡ line_of (fields line)
says_is_read line = answer_is_read meaning (fields line)

pub meanings_agree : (m n : Meaning) (fs : List (List ℕ)) → m.answer fs ≡ n.answer fs
meanings_agree m n fs = answer_is_read m fs ∙ sym (answer_is_read n fs)

pub what_is_said : (line : List ℕ) (x : LineData) → Says (fields line) x → line_meaning line ≡ Some x
what_is_said line x said = says_is_read line ∙ said_line_is_read (fields line) x said

pub is_said : (line : List ℕ) (x : LineData) → line_meaning line ≡ Some x → Says (fields line) x
is_said line x is = read_line_is_said (fields line) x (sym (says_is_read line) ∙ is)

pub nothing_is_said : (line : List ℕ) (x : LineData) → line_meaning line ≡ None → ¬ Says (fields line) x
nothing_is_said line x none said = let some = what_is_said line x said in cc
