-- The keys of a table.
use Rattle.std.proofs.Common.{◌≡◌, ℕ, ◌&&◌, ◌||◌, List, [], ◌∷◌, map, refl, string_bytes}
use Rattle.std.specs.Prelude.{String}
use Rattle.std.specs.List.{list_any, list_all}
use Rattle.std.specs.Str.{bytes_eq}
use Rattle.std.specs.declared.alloc.Global.{Global}
use Rattle.std.specs.Map.{keys_of as map_keys}
use Rattle.toml.specs.View.{members_view}
use Rattle.toml.specs.declared.value.Value.{Value}
use Rattle.us_config.specs.Checks.{has_only}
use denote.Ref.{Bor}

any_map : (key : List ℕ) (names : List (Bor (List ℕ))) → list_any (λ name. bytes_eq key name.now) names ≡ list_any (λ name. bytes_eq key name) (map (λ (name : Bor (List ℕ)). name.now) names)
any_map key [] = refl
any_map key (name ∷ names) = λ i. bytes_eq key name.now || any_map key names i

pub all_keys : (names : List (Bor (List ℕ))) (entries : List (String Global × Value)) → list_all (λ key. list_any (λ name. bytes_eq (string_bytes key) name.now) names) (map_keys entries) ≡ has_only (map (λ (name : Bor (List ℕ)). name.now) names) (members_view entries)
all_keys names [] = refl
all_keys names (e ∷ entries) = λ i. any_map (string_bytes e.0) names i && all_keys names entries i
