-- What is read is of its form, and no word stands alone.
use Rattle.std.proofs.Common.{◌≡◌, ℕ, List, [], Some, None, refl}
use Rattle.ark_script.specs.Line.{Line}
use Rattle.ark_forms.specs.Reading.{one_of, two_of, three_of, four_of, five_of, six_of}
use Rattle.ark_reading.specs.Sentence.{one_read, two_read, three_read, four_read, five_read, six_read}
use Rattle.ark_reading.specs.Shape.{line_read, read_pair, read_triple, read_count, read_length, read_range, read_queued, read_transfer, read_entry, read_write, read_nic, read_bare_app, read_sized_app, read_app, read_vsic, read_vnic, read_vsa, read_filter, read_take, read_sendto, read_wire, read_tick}
use Rattle.ark_reading.specs.declared.word.Word.{Word}
use Rattle.ark_reading.specs.declared.word.Word.TheVariants as word
use Rattle.ark_reading.proofs.Shaping.{Formed, pair_sound, triple_sound, count_sound, length_sound, range_sound, queued_sound, transfer_sound, entry_sound, write_sound}
use Rattle.ark_reading.proofs.Singling.{nic_sound, app_sound, vsic_sound, vnic_sound, vsa_sound, filter_sound, take_sound, sendto_sound, wire_sound, tick_sound}

pub sound : (k : Word) (words : List (List ℕ)) (asked : Line) → line_read k words ≡ Some asked → Formed k words asked
sound (word.Pair k) words asked h = pair_sound k words asked h
sound (word.Triple k) words asked h = triple_sound k words asked h
sound (word.Count k) words asked h = count_sound k words asked h
sound (word.Length k) words asked h = length_sound k words asked h
sound (word.Range k) words asked h = range_sound k words asked h
sound (word.Queue k) words asked h = queued_sound k words asked h
sound (word.Transfer k) words asked h = transfer_sound k words asked h
sound (word.Entry k) words asked h = entry_sound k words asked h
sound (word.Write k) words asked h = write_sound k words asked h
sound word.Nic words asked h = nic_sound words asked h
sound word.App words asked h = app_sound words asked h
sound word.Vsic words asked h = vsic_sound words asked h
sound word.Vnic words asked h = vnic_sound words asked h
sound word.Vsa words asked h = vsa_sound words asked h
sound word.Filter words asked h = filter_sound words asked h
sound word.Take words asked h = take_sound words asked h
sound word.Sendto words asked h = sendto_sound words asked h
sound word.Wire words asked h = wire_sound words asked h
sound word.Tick words asked h = tick_sound words asked h

-- no word stands alone
pub none_alone : (k : Word) → line_read k [] ≡ None
unfolding read_pair read_triple read_count read_length read_range read_queued read_transfer read_entry read_write read_nic read_bare_app read_sized_app read_app read_vsic read_vnic read_vsa read_filter read_take read_sendto read_wire read_tick one_read two_read three_read four_read five_read six_read one_of two_of three_of four_of five_of six_of
none_alone (word.Pair k) = refl
none_alone (word.Triple k) = refl
none_alone (word.Count k) = refl
none_alone (word.Length k) = refl
none_alone (word.Range k) = refl
none_alone (word.Queue k) = refl
none_alone (word.Transfer k) = refl
none_alone (word.Entry k) = refl
none_alone (word.Write k) = refl
none_alone word.Nic = refl
none_alone word.App = refl
none_alone word.Vsic = refl
none_alone word.Vnic = refl
none_alone word.Vsa = refl
none_alone word.Filter = refl
none_alone word.Take = refl
none_alone word.Sendto = refl
none_alone word.Wire = refl
none_alone word.Tick = refl
