-- A view of a datagram in a frame, as the datagram that it shows.
use Rattle.ec_frames.specs.Reading.{Entry}
use Rattle.ec_frames.specs.declared.reading.View.{View}

abbrev pub entry : View → Entry
entry v = record {
  command = v.command;
  index = v.index;
  address = v.address;
  circulating = v.circulating;
  event = v.event;
  counter = v.counter;
  bytes = v.bytes.now;
}
