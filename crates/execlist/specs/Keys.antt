-- What the key that a space stores for a node says of it.
use Rattle.std.specs.Prelude.{List, map, option_map}
use Rattle.execlist.specs.{Lists.KeyData, declared.key.NodeKey.NodeKey}

abbrev pub key_of : NodeKey → KeyData
key_of k = record { pri = k.pri; name = option_map (λ t. t.bytes) k.name }

abbrev pub keys_of : List NodeKey → List KeyData
keys_of ks = map key_of ks
