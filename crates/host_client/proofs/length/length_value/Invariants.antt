use Rattle.std.proofs.Common.{◌≡◌, ◌++◌, drop, map}
use Rattle.std.specs.Option.{option_copied, option_to_list}
use Rattle.httparse.specs.Spans.{header_bytes}
use Rattle.host_client.specs.Reply.{lengths}
use Rattle.host_client.proofs.length.length_value.Given as goal

-- the lengths are the one that was found, and those that are left
abbrev pub invariant-loop-header : goal.invariant-loop-header
invariant-loop-header l =
    lengths (map (header_bytes l.bytes) l.headers) ≡ option_to_list (option_copied l.found)
    ++ lengths (map (header_bytes l.bytes) (drop l.header-index l.headers))
