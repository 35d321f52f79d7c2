-- The servers of a file, as its records hold them and as they are seen.
use Rattle.std.proofs.Common.{◌≡◌, ◌∙◌, ◌||◌, Bool, List, [], ◌∷◌, map, ap, refl}
use Rattle.std.specs.List.{list_any}
use Rattle.softint.specs.declared.source.Source.{Source}
use Rattle.script.specs.{File.ServerData, Records.server_view, declared.file.ServerRecord.ServerRecord}
use Rattle.execexplore.specs.Kinds.{is_served}

-- one of the records serves a source of a kind, if one of the servers that they show does
of_records : (wanted : Source → Bool) (records : List ServerRecord) → list_any (λ (s : ServerRecord). wanted s.source) records ≡ is_served wanted (map server_view records)
of_records wanted [] = refl
of_records wanted (r ∷ rs) = ap (λ b. wanted r.source || b) (of_records wanted rs)

pub served_seen : (wanted : Source → Bool) (records : List ServerRecord) (servers : List ServerData) → map server_view records ≡ servers
    → list_any (λ (s : ServerRecord). wanted s.source) records ≡ is_served wanted servers
served_seen wanted records servers same = of_records wanted records ∙ ap (is_served wanted) same
