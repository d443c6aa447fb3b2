-- Book: all of the definitions by one name, for a theorem that computes with them: to unfold `book` is to unfold each of these.
--
--   book
--
-- Assumes nothing.
use Rattle.std.specs.Prelude.{ℕ}
use Rattle.rules.specs.Bytes.{iff, part, splice, zeros, zeroed, word, be16, be24, be32, be64}
use Rattle.rules.specs.Ber.{bits, length_bytes, length_form, ber_length, announced, length_value, length_in, length_at, value_from, object_at, ending, last_at, tlv}
use Rattle.rules.specs.Reference.{digit, last_two, pin_form, puk_form, reference_ok, none_left, matches, charged, restored, renewed, reference_at, put_reference}
use Rattle.rules.specs.Store.{tag_of, tag_bytes, capacity, offset, named, slot_named, slot_length, object_of, takes, slot_bytes, put_object, key_place, algorithm_of, algorithm_ok, slot_ok, store_tests, well_formed}
use Rattle.rules.specs.Session.{readable, user_key, user_algorithm, key_job_ok, session_tests, possible}
use Rattle.rules.specs.Command.{le_of, header, field_of, parse_long, parse, known, chains, contact_only, admit, admitted, check}
use Rattle.rules.specs.Held.{calm, dropped, left_word, send, fetch, goes_on, based, gathered, held_piece, closed_work, closed, piece}
use Rattle.rules.specs.Pin.{the, put_the, stepped, made, with_given, after, tries_word, missed, verified, verify_given, verify_asked, verify_ended, verify, changed, change_of, change, reset_to, reset_given, reset, refs_in, refs_onto, judged_on, refs, put_refs, on_refs}
use Rattle.rules.specs.Objects.{template, select, tag_in, asked_in, object_tag, give_object, get_slot, get_asked, get_data, get_rest, get_response, put_in, put_tagged, put_form, stored, put_slot, put_whole, put_each, put_piece, put_data}
use Rattle.rules.specs.Keys.{key_fits, asks_pin, auth_each, contents, challenge_in, reply_in, admin_form, data_tag, data_ok, data_in, data_after, key_form, replied, opened, auth_admin, auth_key, auth_in, auth_form, auth_whole, auth_piece, authenticate, result_ok, result_fits, challenged, answered, finished}
use Rattle.rules.specs.Calls.{ruled, obeyed, command, ill_session, short_response, interrupts, unasked, wrong_result, permit, lent, told_bytes, told_answer, delivered, powered_on, granted, kept_session, denied, decided, call}
use Rattle.rules.specs.Runs.{leaves, run, end_of}

unfoldable pub book : ℕ
unfolding iff part splice zeros zeroed word be16 be24 be32 be64 bits length_bytes length_form ber_length announced length_value length_in length_at value_from object_at ending last_at tlv digit last_two pin_form puk_form reference_ok none_left matches charged restored renewed reference_at put_reference tag_of tag_bytes capacity offset named slot_named slot_length object_of takes slot_bytes put_object key_place algorithm_of algorithm_ok slot_ok store_tests well_formed readable user_key user_algorithm key_job_ok session_tests possible le_of header field_of parse_long parse known chains contact_only admit admitted check calm dropped left_word send fetch goes_on based gathered held_piece closed_work closed piece the put_the stepped made with_given after tries_word missed verified verify_given verify_asked verify_ended verify changed change_of change reset_to reset_given reset refs_in refs_onto judged_on refs put_refs on_refs template select tag_in asked_in object_tag give_object get_slot get_asked get_data get_rest get_response put_in put_tagged put_form stored put_slot put_whole put_each put_piece put_data key_fits asks_pin auth_each contents challenge_in reply_in admin_form data_tag data_ok data_in data_after key_form replied opened auth_admin auth_key auth_in auth_form auth_whole auth_piece authenticate result_ok result_fits challenged answered finished ruled obeyed command ill_session short_response interrupts unasked wrong_result permit lent told_bytes told_answer delivered powered_on granted kept_session denied decided call leaves run end_of
book = 0
