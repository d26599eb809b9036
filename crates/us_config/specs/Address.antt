-- Addresses, `host:port`.
use Rattle.std.specs.Prelude.{ℕ, ◌==◌, nat_lt, nat_le, not, Bool, ◌&&◌, List, length, slice_index}
use Rattle.std.specs.List.{before_first, after_first, list_all}
use Rattle.std.specs.Str.{all_ascii_digits}
use Rattle.std.specs.Str.Parse.{digits_value}

-- 1 to 255 ASCII characters, none of them a space
abbrev pub is_host : List ℕ → Bool
is_host host = nat_le 1 (length host) && (nat_le (length host) 255 && list_all (λ c. nat_lt c 128 && not (c == 32)) host)

-- 1 to 65535, in digits without a leading zero
abbrev pub is_port : List ℕ → Bool
is_port port = all_ascii_digits port && (not (slice_index port 0 == 48) && (nat_le 1 (digits_value 10 port) && nat_le (digits_value 10 port) 65535))

-- a host and a port, with a colon between: a port has none, so there is just one
abbrev pub is_address_text : List ℕ → Bool
is_address_text text = is_host (before_first (λ b. b == 58) text) && is_port (after_first (λ b. b == 58) text)
