-- What a table holds at a key.
use Rattle.std.specs.Prelude.{ℕ, suc, ℤ, pos, Bool, true, false, not, ◌&&◌, ◌||◌, int_le, List, [], ◌∷◌, ◌++◌, Option, Some, None, is_some, option_and_then, unwrap_or}
use Rattle.std.specs.List.{list_any}
use Rattle.std.specs.Str.{bytes_eq}
use Rattle.toml.specs.Data.{Data, Items, no_items, item, Members, no_members, member, get_member, as_integer, as_str, as_array, as_table}
use Rattle.ec_unit_text.specs.declared.fault.Key.{Key}
use Rattle.ec_unit_text.specs.declared.fault.Key.TheVariants as key
use Rattle.ec_unit_text.specs.FaultText.{key_text}

-- the integer at a key, if there is one
abbrev pub integer_given : Key → Members → Option ℤ
integer_given k ms = option_and_then as_integer (get_member (key_text k) ms)

-- the integer at a key, the text and the items; this one, no text and no items where there are none
abbrev pub integer_or : ℤ → Key → Members → ℤ
integer_or z k ms = unwrap_or (integer_given k ms) z

abbrev pub integer_at : Key → Members → ℤ
integer_at k ms = integer_or (pos 0) k ms

abbrev pub text_at : Key → Members → List ℕ
text_at k ms = unwrap_or (option_and_then as_str (get_member (key_text k) ms)) []

abbrev pub items_at : Key → Members → Items
items_at k ms = unwrap_or (option_and_then as_array (get_member (key_text k) ms)) no_items

-- there is nothing at the key
abbrev pub is_missing : Key → Members → Bool
is_missing k ms = not (is_some (get_member (key_text k) ms))

-- the tables among items
abbrev pub table_list : Option Members → List Members
table_list None = []
table_list (Some ms) = ms ∷ []

abbrev pub tables_in : Items → List Members
tables_in no_items = []
tables_in (item d ds) = table_list (as_table d) ++ tables_in ds

abbrev pub item_count : Items → ℕ
item_count no_items = 0
item_count (item d ds) = suc (item_count ds)

abbrev pub all_tables : Items → Bool
all_tables no_items = true
all_tables (item d ds) = is_some (as_table d) && all_tables ds

abbrev pub is_array_of_tables : Option Items → Bool
is_array_of_tables None = false
is_array_of_tables (Some ds) = all_tables ds

-- a value has the type that a key asks for
abbrev pub is_of_type : Key → Data → Bool
is_of_type key.Name d = is_some (as_str d)
is_of_type key.Unit d = is_array_of_tables (as_array d)
is_of_type key.Slave d = is_array_of_tables (as_array d)
is_of_type _ d = is_some (as_integer d)

-- there is a value at the key, and it has another type
abbrev pub is_other : Key → Option Data → Bool
is_other k None = false
is_other k (Some d) = not (is_of_type k d)

abbrev pub has_wrong : Key → Members → Bool
has_wrong k ms = is_other k (get_member (key_text k) ms)

-- these bytes are one of the keys
abbrev pub is_one_of : List Key → List ℕ → Bool
is_one_of keys bytes = list_any (λ k. bytes_eq bytes (key_text k)) keys

-- some key is none of these
abbrev pub has_other_key : List Key → Members → Bool
has_other_key keys no_members = false
has_other_key keys (member bytes d ms) = not (is_one_of keys bytes) || has_other_key keys ms

-- from the first number to the second, both in
abbrev pub is_between : ℤ → ℤ → ℤ → Bool
is_between low high z = int_le low z && int_le z high
