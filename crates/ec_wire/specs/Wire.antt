use Rattle.std.specs.Prelude.{ℕ, ◌+◌, ◌*◌, max}

-- the bytes that a frame takes on the wire (IEEE 802.3): preamble with start delimiter 8, header 14, frame check sequence 4, gap 12, and its payload padded to 46
abbrev pub wire_of : ℕ → ℕ
wire_of payload = 38 + max 46 payload

-- the same without the padding
abbrev pub raw_of : ℕ → ℕ
raw_of payload = 38 + payload

-- the nanoseconds that bytes take at 100 Mbit/s
abbrev pub ns_of : ℕ → ℕ
ns_of bytes = 80 * bytes
