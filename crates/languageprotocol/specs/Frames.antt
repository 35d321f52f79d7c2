-- Frames of messages.
use Rattle.std.specs.Prelude.{ℕ, List, ◌++◌, codes, decimal}

-- what is before a message of that many bytes
abbrev pub head_of : ℕ → List ℕ
head_of count = codes "Content-Length: " ++ (decimal count ++ codes "\r\n\r\n")
