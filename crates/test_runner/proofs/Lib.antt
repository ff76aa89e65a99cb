pub mod MeetLemmas
