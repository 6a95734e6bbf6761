mod Ringing
mod Queueing
