mod Latching
