-- The worked rows, computed from the definitions.
use Rattle.std.proofs.Common.{◌≡◌, ℕ, zero, suc, false, List, [], ◌∷◌, ◌++◌, Some, None, refl}
use Rattle.std.specs.Prelude.{codes, pos, neg_ℤ}
use Rattle.key_names.specs.Key.{printed}
use Rattle.key_names.specs.Segment.{file_name}
use Rattle.template_reader.specs.Cut.{cut, pieces, first_piece, text_length, through, through_dashes, through_unquoted, tag_length, text, tag}
use Rattle.template_reader.specs.Words.{parts, words, key_of}
use Rattle.template_reader.specs.Says.{path_of, text_of, integer_of, literal_of, expr_of, begin_form, finish_form, plain_form, form_of, tag_of}
use Rattle.template_reader.specs.Spot.{blocks_after, spots_behind, spots}
use Rattle.template_reader.specs.Taken.{line_front, line_end, line_rest, alone, tag_takes_before, tag_takes_after, items_behind}
use Rattle.template_reader.specs.Taken as item
use Rattle.template_reader.specs.Fault.{form_fault, piece_fault, first_fault, body_fault}
use Rattle.template_reader.specs.Front.{fence_in, front_length, body_start}
use Rattle.template_reader.specs.Parses.{fault}
use Rattle.template_reader.specs.declared.template_error.TemplateKind.TheVariants.{Escape, Unclosed, BadTag, NotBegun, TwoElse, NotInEach, TooDeep, NeverClosed}
use Rattle.template_reader.specs.declared.tag.Name.TheVariants as name
use Rattle.template_reader.specs.declared.expr.Expr.TheVariants.{Plain, Default, Decode, Json, JoinArray, JoinMap}
use Rattle.template_reader.specs.declared.expr.Literal.TheVariants as literal
use Rattle.template_reader.specs.declared.walk.Walk.TheVariants.{Root, This}

cuts : cut (codes "a {{b}} c") ≡ text (codes "a ") ∷ tag (codes "{{b}}") ∷ text (codes " c") ∷ []
unfolding cut pieces first_piece text_length through through_dashes through_unquoted tag_length
cuts = refl

never_closed : fault (codes "{{#if a}}x") ≡ Some (record { kind = NeverClosed; place = 0 })
unfolding cut pieces first_piece text_length through through_dashes through_unquoted tag_length parts words key_of printed file_name path_of text_of integer_of
    literal_of expr_of begin_form finish_form plain_form form_of tag_of blocks_after spots_behind spots form_fault piece_fault first_fault body_fault fence_in
    front_length body_start fault
never_closed = refl

not_begun : fault (codes "{{/if}}") ≡ Some (record { kind = NotBegun; place = 0 })
unfolding cut pieces first_piece text_length through through_dashes through_unquoted tag_length parts words key_of printed file_name path_of text_of integer_of
    literal_of expr_of begin_form finish_form plain_form form_of tag_of blocks_after spots_behind spots form_fault piece_fault first_fault body_fault fence_in
    front_length body_start fault
not_begun = refl

escape : fault (codes "\\{{x}}") ≡ Some (record { kind = Escape; place = 0 })
unfolding cut pieces first_piece text_length through through_dashes through_unquoted tag_length parts words key_of printed file_name path_of text_of integer_of
    literal_of expr_of begin_form finish_form plain_form form_of tag_of blocks_after spots_behind spots form_fault piece_fault first_fault body_fault fence_in
    front_length body_start fault
escape = refl

outside : fault (codes "{{this}}") ≡ Some (record { kind = NotInEach; place = 0 })
unfolding cut pieces first_piece text_length through through_dashes through_unquoted tag_length parts words key_of printed file_name path_of text_of integer_of
    literal_of expr_of begin_form finish_form plain_form form_of tag_of blocks_after spots_behind spots form_fault piece_fault first_fault body_fault fence_in
    front_length body_start fault
outside = refl

bad : fault (codes "{{a b}}") ≡ Some (record { kind = BadTag; place = 0 })
unfolding cut pieces first_piece text_length through through_dashes through_unquoted tag_length parts words key_of printed file_name path_of text_of integer_of
    literal_of expr_of begin_form finish_form plain_form form_of tag_of blocks_after spots_behind spots form_fault piece_fault first_fault body_fault fence_in
    front_length body_start fault
bad = refl

unclosed_row : fault (codes "{{settings.motd") ≡ Some (record { kind = Unclosed; place = 0 })
unfolding cut pieces first_piece text_length through through_dashes through_unquoted tag_length parts words key_of printed file_name path_of text_of integer_of
    literal_of expr_of begin_form finish_form plain_form form_of tag_of blocks_after spots_behind spots form_fault piece_fault first_fault body_fault fence_in
    front_length body_start fault
unclosed_row = refl

two_else : fault (codes "{{#if a}}{{else}}{{else}}{{/if}}") ≡ Some (record { kind = TwoElse; place = 17 })
unfolding cut pieces first_piece text_length through through_dashes through_unquoted tag_length parts words key_of printed file_name path_of text_of integer_of
    literal_of expr_of begin_form finish_form plain_form form_of tag_of blocks_after spots_behind spots form_fault piece_fault first_fault body_fault fence_in
    front_length body_start fault
two_else = refl

other_name : fault (codes "{{#if a}}{{/each}}") ≡ Some (record { kind = NotBegun; place = 9 })
unfolding cut pieces first_piece text_length through through_dashes through_unquoted tag_length parts words key_of printed file_name path_of text_of integer_of
    literal_of expr_of begin_form finish_form plain_form form_of tag_of blocks_after spots_behind spots form_fault piece_fault first_fault body_fault fence_in
    front_length body_start fault
other_name = refl

trims : items_behind 0 0 (spots (codes "a {{~ settings.motd ~}} b"))
    ≡ item.text (record { start = 0; end = 1 }) ∷ item.print (Plain (Root (codes "settings" ∷ codes "motd" ∷ []))) ∷ item.text (record { start = 24; end = 25 })
    ∷ []
unfolding cut pieces first_piece text_length through through_dashes through_unquoted tag_length parts words key_of printed file_name path_of text_of integer_of
    literal_of expr_of begin_form finish_form plain_form form_of tag_of blocks_after spots_behind spots line_front line_end line_rest alone tag_takes_before
    tag_takes_after items_behind
trims = refl

lines : items_behind 4 0 (spots (codes "{{#each a}}" ++ 10 ∷ codes "pool {{this}} iburst" ++ 10 ∷ codes "{{/each}}" ++ 10 ∷ []))
    ≡ item.begin name.Each (Root (codes "a" ∷ [])) ∷ item.text (record { start = 16; end = 21 }) ∷ item.print (Plain (This None))
    ∷ item.text (record { start = 29; end = 37 }) ∷ item.finish name.Each ∷ []
unfolding cut pieces first_piece text_length through through_dashes through_unquoted tag_length parts words key_of printed file_name path_of text_of integer_of
    literal_of expr_of begin_form finish_form plain_form form_of tag_of blocks_after spots_behind spots line_front line_end line_rest alone tag_takes_before
    tag_takes_after items_behind
lines = refl

helpers : items_behind 0 0 (spots
    (codes "{{default -7 a}}{{base64_decode a}}{{json a}}{{json}}{{join_array \",\" a}}{{join_map \"=\" \" \" \"no-fail-if-missing\" a}}"))
    ≡ item.print (Default (literal.Int (neg_ℤ (pos 7))) (Root (codes "a" ∷ []))) ∷ item.print (Decode (Root (codes "a" ∷ [])))
    ∷ item.print (Json (Root (codes "a" ∷ []))) ∷ item.print (Plain (Root (codes "json" ∷ [])))
    ∷ item.print (JoinArray (codes ",") (Root (codes "a" ∷ [])))
    ∷ item.print (JoinMap (codes "=") (codes " ") false (Root (codes "a" ∷ []))) ∷ []
unfolding cut pieces first_piece text_length through through_dashes through_unquoted tag_length parts words key_of printed file_name path_of text_of integer_of
    literal_of expr_of begin_form finish_form plain_form form_of tag_of blocks_after spots_behind spots line_front line_end line_rest alone tag_takes_before
    tag_takes_after items_behind
helpers = refl

times : ℕ → List ℕ → List ℕ
times zero bytes = []
times (suc n) bytes = bytes ++ times n bytes

deep : fault (times 33 (codes "{{#if a}}") ++ times 33 (codes "{{/if}}")) ≡ Some (record { kind = TooDeep; place = 288 })
unfolding cut pieces first_piece text_length through through_dashes through_unquoted tag_length parts words key_of printed file_name path_of text_of integer_of
    literal_of expr_of begin_form finish_form plain_form form_of tag_of blocks_after spots_behind spots form_fault piece_fault first_fault body_fault fence_in
    front_length body_start fault times
deep = refl
