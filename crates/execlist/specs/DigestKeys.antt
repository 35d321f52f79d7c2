-- What a key with a digest says of its node.
use Rattle.std.specs.Prelude.{ℕ, ◌-◌, List, ◌++◌, length, map, option_map, replicate}
use Rattle.execlist.specs.{Lists.KeyData, Lists.blank, declared.digest.DigestKey.DigestKey}

-- what a stored key says
abbrev pub digest_key_of : DigestKey → KeyData
digest_key_of k = record { pri = k.pri; name = option_map (λ t. t.bytes) k.name }

abbrev pub digest_keys_of : List DigestKey → List KeyData
digest_keys_of ks = map digest_key_of ks

-- the keys of that many nodes, of which the first have these: each other one has the key of a new node
unfoldable pub keys_in : ℕ → List DigestKey → List KeyData
keys_in nodes ks = digest_keys_of ks ++ replicate (nodes - length ks) blank
