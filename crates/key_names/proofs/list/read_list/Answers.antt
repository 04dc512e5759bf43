use Rattle.std.proofs.Common.{ℕ, List, Vec, Global}
use Rattle.key_names.proofs.OneListing.{listed_read, list_fault_read}
use Rattle.key_names.proofs.list.read_list.Goals as goal

pub returns-clause-exact_keys : goal.returns-clause-exact_keys
returns-clause-exact_keys c = listed_read (λ (read : Vec (List (List ℕ)) Global). read.items) c.args.text.now c.keys_of.result c.keys_of.ensures.ok
    c.keys_of.ensures.refused

pub returns-clause-exact_fault : goal.returns-clause-exact_fault
returns-clause-exact_fault c = list_fault_read (λ (read : Vec (List (List ℕ)) Global). read.items) c.args.text.now c.keys_of.result c.keys_of.ensures.ok
    c.keys_of.ensures.refused
